-- The texts of a unit are walked one after the other.
use Rattle.std.proofs.Common.{◌≡◌, ℕ, ◌+◌, ◌<◌, ◌≤◌, List, ◌∷◌, ◌++◌, length, take, map, get_or, All, Option, sym, ap, subst, ◌∙◌, arith, length-append}
use Rattle.std.proofs.lemmas.List.{take-append-le, take_all, get_or_append_left, map-append}
use Rattle.std.proofs.lemmas.List.Elements.{All-weaker, All-more, Contains-get_or}
use Rattle.aa_files.specs.declared.unit.Source.{Source}
use Rattle.aa_files.specs.declared.unit.Unit as unit
use Rattle.aa_files.specs.declared.walk.Wanted.{Wanted}
use Rattle.aa_files.specs.Files.{Files}
use Rattle.aa_files.specs.Walks.{Entry, Asked, Asks, IsLookedUp, IsClosed, IsIncluded, walked_texts}
use Rattle.aa_files.specs.WalkData.{asked, LooksUp, IsWalkedTo}
use Rattle.aa_files.proofs.Lists.{contains_map}
use Rattle.aa_files.proofs.Walking.{count_texts, walk_more, adds_behind, looked_kept}

texts_append : (main : List ℕ) (xs ys : List Source) → walked_texts main (xs ++ ys) ≡ walked_texts main xs ++ map (λ s. s.text.items) ys
texts_append main xs ys = ap (λ (ts : List (List ℕ)). main ∷ ts) (map-append (λ (s : Source). s.text.items) xs ys)

closed_kept : (files : Option Files) (folders : List (List ℕ)) (ss ss' : List Source) (es es' : List Entry)
    → ((a : Asked) → IsLookedUp files ss es a → IsLookedUp files ss' es' a) → (t : List ℕ) → IsClosed files folders ss es t
    → IsClosed files folders ss' es' t
closed_kept files folders ss ss' es es' keeps t h = record { asked = h.asked; asks = h.asks; each = All-weaker (IsLookedUp files ss es) (IsLookedUp files ss' es') keeps h.asked h.each }

module _ (files : Option Files) (folders : List (List ℕ)) (path main : List ℕ) where
  -- one look-up
  pub walked_more : (n : ℕ) (a : Asked) (u u' : unit.Unit) → n ≤ length u.sources.items → IsIncluded folders (walked_texts main u.sources.items) a
      → LooksUp files a u u' → IsWalkedTo files folders path main n u → IsWalkedTo files folders path main n u'
  walked_more n a u u' h inc looks w =
      let b = adds_behind files a u.sources.items u.known.entries u'.sources.items u'.known.entries looks.adds in
      let within : n ≤ length (walked_texts main u.sources.items) = omega (arith, count_texts main u.sources.items) in
      let same : take n (walked_texts main u'.sources.items) ≡ take n (walked_texts main u.sources.items) =
      ap (λ (ss : List Source). take n (walked_texts main ss)) b.1 ∙ ap (λ (ts : List (List ℕ)). take n ts) (texts_append main u.sources.items b.0)
      ∙ take-append-le n (walked_texts main u.sources.items) (map (λ s. s.text.items) b.0) within in
      record {
        path_is = looks.path ∙ w.path_is;
        text_is = looks.text ∙ w.text_is;
        walk = walk_more files folders main a u.sources.items u.known.entries u'.sources.items u'.known.entries inc looks.adds w.walk;
        closed = subst (λ (ts : List (List ℕ)). All (IsClosed files folders u'.sources.items u'.known.entries) ts) (sym same)
            (All-weaker (IsClosed files folders u.sources.items u.known.entries) (IsClosed files folders u'.sources.items u'.known.entries)
            (closed_kept files folders u.sources.items u'.sources.items u.known.entries u'.known.entries
            (looked_kept files folders main a u.sources.items u.known.entries u'.sources.items u'.known.entries w.walk looks.adds))
            (take n (walked_texts main u.sources.items)) w.closed);
      }

  -- a text whose names are all looked up
  pub walked_closed : (n : ℕ) (u : unit.Unit) → n ≤ length u.sources.items
      → IsClosed files folders u.sources.items u.known.entries (get_or (walked_texts main u.sources.items) n main) → IsWalkedTo files folders path main n u
      → IsWalkedTo files folders path main (n + 1) u
  walked_closed n u h c w =
      let within : n < length (walked_texts main u.sources.items) = omega (arith, count_texts main u.sources.items) in
      record { path_is = w.path_is; text_is = w.text_is; walk = w.walk; closed = All-more (IsClosed files folders u.sources.items u.known.entries) (walked_texts main u.sources.items) n main within w.closed c }

  -- behind the last text
  pub walked_past : (n : ℕ) (u : unit.Unit) → length u.sources.items < n → IsWalkedTo files folders path main n u → IsWalkedTo files folders path main (n + 1) u
  walked_past n u h w =
      let all : length (walked_texts main u.sources.items) ≤ n = omega (arith, count_texts main u.sources.items) in
      let all' : length (walked_texts main u.sources.items) ≤ n + 1 = omega arith in
      record {
        path_is = w.path_is;
        text_is = w.text_is;
        walk = w.walk;
        closed = subst (λ (ts : List (List ℕ)). All (IsClosed files folders u.sources.items u.known.entries) ts)
            (take_all n (walked_texts main u.sources.items) all ∙ sym (take_all (n + 1) (walked_texts main u.sources.items) all')) w.closed;
      }

  pub walked_all : (n : ℕ) (u : unit.Unit) → length u.sources.items < n → IsWalkedTo files folders path main n u → All (IsClosed files folders u.sources.items u.known.entries) (walked_texts main u.sources.items)
  walked_all n u h w =
      let all : length (walked_texts main u.sources.items) ≤ n = omega (arith, count_texts main u.sources.items) in
      subst (λ (ts : List (List ℕ)). All (IsClosed files folders u.sources.items u.known.entries) ts) (take_all n (walked_texts main u.sources.items) all) w.closed

-- the text of a number stays, whatever sources come behind
pub text_kept : (files : Option Files) (main : List ℕ) (n : ℕ) (a : Asked) (u u' : unit.Unit) → n ≤ length u.sources.items → LooksUp files a u u'
    → get_or (walked_texts main u'.sources.items) n main ≡ get_or (walked_texts main u.sources.items) n main
text_kept files main n a u u' h looks =
    let b = adds_behind files a u.sources.items u.known.entries u'.sources.items u'.known.entries looks.adds in
    let within : n < length (walked_texts main u.sources.items) = omega (arith, count_texts main u.sources.items) in
    ap (λ (ss : List Source). get_or (walked_texts main ss) n main) b.1 ∙ ap (λ (ts : List (List ℕ)). get_or ts n main) (texts_append main u.sources.items b.0)
    ∙ get_or_append_left (walked_texts main u.sources.items) (map (λ s. s.text.items) b.0) main n within

pub no_fewer : (files : Option Files) (a : Asked) (u u' : unit.Unit) → LooksUp files a u u' → length u.sources.items ≤ length u'.sources.items
no_fewer files a u u' looks =
    let b = adds_behind files a u.sources.items u.known.entries u'.sources.items u'.known.entries looks.adds in
    omega (arith, ap (λ (ss : List Source). length ss) b.1, length-append u.sources.items b.0)

-- what a text asks for is asked for by a text of the unit
pub asked_there : (folders : List (List ℕ)) (main text : List ℕ) (n : ℕ) (sources : List Source) (ws : List Wanted) (i : ℕ) (w : Wanted)
    → n ≤ length sources → text ≡ get_or (walked_texts main sources) n main → Asks folders text (map asked ws)
    → i < length ws → w ≡ get_or ws i w → IsIncluded folders (walked_texts main sources) (asked w)
asked_there folders main text n sources ws i w h e asks lt at =
    let within : n < length (walked_texts main sources) = omega (arith, count_texts main sources) in
    record {
      text = get_or (walked_texts main sources) n main;
      among = Contains-get_or (walked_texts main sources) n main within;
      asked = map asked ws;
      asks = subst (λ (t : List ℕ). Asks folders t (map asked ws)) e asks;
      has = contains_map asked ws i w lt at;
    }
