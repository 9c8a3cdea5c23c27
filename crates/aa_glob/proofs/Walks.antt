-- The walk at its start, one step on, and at its end.
use Rattle.std.proofs.Common.{◌≡◌, ℕ, zero, suc, ◌+◌, ◌-◌, ◌≤◌, ⊎_elim, Bool, false, List, [], ◌∷◌, ◌++◌, length, reverse}
use Rattle.std.proofs.Common.{Option, Some, None, Bor, Vec, Global, refl, sym, ap, ◌∙◌, subst, inl, inr, arith}
use Rattle.std.proofs.Math.Path.{subst₂}
use Rattle.std.proofs.lemmas.Option.{same_Some}
use Rattle.std.proofs.lemmas.Slice.Eq.{bytes_eq-Decides}
use Rattle.aa_base.specs.declared.fault.PolicyKind.{PolicyKind}
use Rattle.aa_base.specs.declared.fault.PolicyKind.TheVariants.{VariableCircle}
use Rattle.aa_glob.specs.declared.summary.VariableSummary.{VariableSummary}
use Rattle.aa_glob.specs.declared.walk.Step.{Step}
use Rattle.aa_glob.specs.Variables.{Variable, values_of}
use Rattle.aa_glob.specs.Pieces.{Piece, Use, pieces_from}
use Rattle.aa_glob.specs.Expansions.{Texts, Stops, alone, outcome, is_reserved}
use Rattle.aa_glob.specs.Settled.{Settled, AreEnds}
use Rattle.aa_glob.specs.Known.{Table, found, IsKnown, AreTextsKnown, IsRight, AreRight, IsWalked}
use Rattle.aa_glob.specs.Ways.{IsWalkFault, items_of, pieces_left, IsPart, Calls, OnWay, IsAmong, Grows, IsWalking, bytes_of, unless_found, unseen, unread, unread_all}
use Rattle.aa_glob.proofs.Tables.{IsPut, pushed_up, pushed_long, put_case, grows_put, grows_then, known_more, right_more}
use Rattle.aa_glob.proofs.Ways.{part_on, part_value, part_variable, part_raw, part_end, next_stops, way_stops, way_circle, way_on}

-- a variable on the way
abbrev open_entry : Option (Option VariableSummary)
open_entry = Some None

pub walk_start : {vars : List Variable} {raw : List ℕ} {top : Step} {none : Table} → none ≡ [] → top.kept ≡ false → top.rest.now ≡ raw → top.later.now ≡ [] → IsWalking vars raw [] top none
walk_start {vars} {raw} {top} {none} e kept text later = record {
  way = λ more g. part_raw vars more top raw kept text later;
  right = λ depth le name s h. absurd (cc (ap (found name) (sym e) ∙ h));
  open_names = λ name h. absurd (cc (ap (found name) (sym e) ∙ h));
  room = omega arith;
}

module _ {vars : List Variable} {raw : List ℕ} {stack : List Step} {top : Step} {done : Table} (w : IsWalking vars raw stack top done) where
  -- within a text
  walk_on : (rest : Bor (List ℕ)) (kept : Bool) (later : Bor (List (Vec ℕ Global))) →
      ((more : Table) → Grows done more → (texts : List (List ℕ)) → IsPart vars more texts top → IsPart vars more texts (record top { rest = rest; kept = kept; later = later })) →
      IsWalking vars raw stack (record top { rest = rest; kept = kept; later = later }) done
  walk_on rest kept later on = record {
    way = λ more g. way_on vars more raw top rest kept later (reverse stack) (on more g) (w.way more g);
    right = w.right;
    open_names = w.open_names;
    room = w.room;
  }

  pub walk_part : (behind : Bor (List ℕ)) (keep : Bool) (p : Piece) (n m : ℕ) (ts : List (List ℕ)) → pieces_left top ≡ p ∷ pieces_from keep 0 behind.now → alone (outcome n vars) p ≡ Texts m ts → IsKnown done p →
      IsWalking vars raw stack (record top { rest = behind; kept = keep }) done
  walk_part behind keep p n m ts e comes known = walk_on behind keep top.later (λ more g texts. part_on vars more texts top behind keep p n m ts e comes (known_more done more g p known))

  pub walk_known : (behind : Bor (List ℕ)) (keep : Bool) (name : List ℕ) (s : VariableSummary) → pieces_left top ≡ Use name ∷ pieces_from keep 0 behind.now → found name done ≡ Some (Some s) →
      IsWalking vars raw stack (record top { rest = behind; kept = keep }) done
  walk_known behind keep name s e known = let r = (w.right (length done) (omega arith) name s known).texts in walk_part behind keep (Use name) (length done) r.most r.ts e r.is (s, known)

  pub walk_value : (text : Bor (List ℕ)) (others : Bor (List (Vec ℕ Global))) {v : Vec ℕ Global} → pieces_left top ≡ [] → top.later.now ≡ v ∷ others.now → text.now ≡ v.items →
      IsWalking vars raw stack (record top { rest = text; kept = false; later = others }) done
  walk_value text others {v} none later is = walk_on text false others (λ more g texts. part_value vars more texts top text others v none later is)

  -- into a variable
  pub walk_into : {new_stack : List Step} {new : Table} (g : Step) (behind : List Piece) → new_stack ≡ stack ++ top ∷ [] → IsPut done new g.name.now None → found g.name.now done ≡ None →
      pieces_left top ≡ Use g.name.now ∷ behind → is_reserved g.name.now ≡ false → values_of vars g.name.now ≡ Some (items_of g.all.now) → g.rest.now ≡ [] → g.later.now ≡ g.all.now → IsWalking vars raw new_stack g new
  walk_into {new_stack} {new} g behind pushed put fresh next plain defined none all =
      let grows : Grows done new = grows_put done new g.name.now None put (λ s h. absurd (cc (sym fresh ∙ h))) in
      record {
        way = λ more h. subst (OnWay vars more raw g) (sym (pushed_up _ _ _ pushed)) (
          part_variable vars more g none all,
          record { behind = behind; next = next; plain = plain; defined = defined },
          w.way more (grows_then done new more grows h),
        );
        right = λ depth le name s h. right_more done new grows depth vars name s (w.right depth (omega (arith, pushed_long _ _ _ pushed, put.fresh fresh, le)) name s (grind (arith, put_case)));
        open_names = λ name h. subst (IsAmong name g.name.now) (sym (pushed_up _ _ _ pushed)) (⊎_elim (λ x. inl x.0) (λ x. inr (w.open_names name x.1)) (put_case done new g.name.now None put name open_entry h));
        room = omega (arith, pushed_long _ _ _ pushed, put.fresh fresh, w.room);
      }

  -- at the end of a variable's values
  module _ (below_stack : List Step) (below : Step) (popped : stack ≡ below_stack ++ below ∷ []) where
    down : (more : Table) → Grows done more → OnWay vars more raw top (below ∷ reverse below_stack)
    down more grows = subst (OnWay vars more raw top) (pushed_up _ _ _ popped) (w.way more grows)

    called : Calls vars below top.name.now (items_of top.all.now)
    called = (down done (λ name s h. (s, h))).1

    pub walk_values : (is_reserved top.name.now ≡ false) × (values_of vars top.name.now ≡ Some (items_of top.all.now))
    walk_values = (called.plain, called.defined)

    pub walk_texts : pieces_left top ≡ [] → top.later.now ≡ [] → AreTextsKnown done (items_of top.all.now)
    walk_texts none last = part_end vars done (items_of top.all.now) top none last (down done (λ name s h. (s, h))).0

    pub walk_back : {new : Table} {s : VariableSummary} → IsPut done new top.name.now (Some s) → pieces_left top ≡ [] → top.later.now ≡ [] →
        ((depth : ℕ) → AreRight depth vars done → Settled (outcome (suc depth) vars top.name.now) s.texts) → AreEnds vars 0 (items_of top.all.now) s.ends.items → IsWalking vars raw below_stack below new
    walk_back {new} {s} put none last texts ends = record {
      way = λ more h. (down more (grows_then done new more grows h)).2;
      right = λ depth le name t h. right_more done new grows depth vars name t
          (⊎_elim (λ x. subst₂ (IsRight depth vars done) x.0 (same_Some _ _ (same_Some _ _ x.1)) (right depth le)) (λ x. w.right depth (omega (arith, pushed_long _ _ _ popped, put.longer, le)) name t x.1)
          (put_case done new top.name.now (Some s) put name (Some (Some t)) h));
      open_names = λ name h.
          ⊎_elim (λ x. absurd (cc x.1)) (λ x. ⊎_elim (λ e. absurd (x.0 e)) (λ a. a) (subst (IsAmong name top.name.now) (pushed_up _ _ _ popped) (w.open_names name x.1)))
          (put_case done new top.name.now (Some s) put name open_entry h);
      room = omega (arith, pushed_long _ _ _ popped, put.longer, w.room);
    }
      where
        grows : Grows done new
        grows = grows_put done new top.name.now (Some s) put (λ t h. (s, refl))

        right : (depth : ℕ) → length new ≤ depth + length below_stack → IsRight depth vars done top.name.now s
        right zero le = absurd (omega (arith, pushed_long _ _ _ popped, put.longer, w.room, le))
        right (suc d) le = record {
          texts = texts d (w.right d (omega (arith, pushed_long _ _ _ popped, put.longer, le)));
          ends = λ values e. let same : items_of top.all.now ≡ values = cc (sym called.defined ∙ e) in subst (λ vs. AreEnds vars 0 vs s.ends.items) same ends;
          closed = λ values e. let same : items_of top.all.now ≡ values = cc (sym called.defined ∙ e) in subst (AreTextsKnown done) same (walk_texts none last);
        }

  pub walk_end : stack ≡ [] → pieces_left top ≡ [] → top.later.now ≡ [] → IsWalked vars raw done
  walk_end last none later = record {
    right = w.right (length done) (omega (arith, ap length last));
    known = (part_end vars done (raw ∷ []) top none later (subst (OnWay vars done raw top) (ap reverse last) (w.way done (λ name s h. (s, h))))).0;
  }

  -- where the walk is refused
  pub walk_stops : {behind : List Piece} (p : Piece) (e : PolicyKind) (from : ℕ) → pieces_left top ≡ p ∷ behind → ((d : ℕ) → from ≤ d → alone (outcome d vars) p ≡ Stops e) → IsWalkFault vars raw e
  walk_stops {behind} p e from next stops =
      let f = way_stops vars done raw e top (reverse stack) (w.way done (λ name s h. (s, h))) (next_stops vars top p behind e from next stops) in inl (f.from, f.stops f.from (omega arith))

  pub walk_refused : {name : List ℕ} {behind : List Piece} {e : PolicyKind} → pieces_left top ≡ Use name ∷ behind → ((d : ℕ) → outcome (suc d) vars name ≡ Stops e) → IsWalkFault vars raw e
  walk_refused {name} {behind} {e} next stops = walk_stops (Use name) e 1 next (λ d h. subst (λ n. outcome n vars name ≡ Stops e) (omega arith) (stops (d - 1)))

  pub walk_circle : {name : List ℕ} {behind : List Piece} → pieces_left top ≡ Use name ∷ behind → found name done ≡ Some None → IsWalkFault vars raw VariableCircle
  walk_circle {name} {behind} next open_name =
      inr (refl, way_circle vars done raw name top (reverse stack) behind (w.way done (λ n s h. (s, h))) (w.open_names name open_name) next)

-- A walk ends: what was come to stays so.
module _ (done new : Table) (key : List ℕ) (v : Option VariableSummary) (put : IsPut done new key v) where
  less_here : (name : List ℕ) (n : ℕ) → unless_found (found name new) n ≤ unless_found (found name done) n
  less_here name n = grind (arith, put.at)

  pub unseen_less : (vars : List Variable) → unseen vars new ≤ unseen vars done
  unseen_less [] = omega arith
  unseen_less (x ∷ xs) = omega (arith, less_here x.name (2 + bytes_of x.values), unseen_less xs)

  -- a variable that is come to now is no longer among them
  pub unseen_new : (vars : List Variable) (values : List (List ℕ)) → found key done ≡ None → values_of vars key ≡ Some values → unseen vars new + (2 + bytes_of values) ≤ unseen vars done
  unfolding values_of
  unseen_new [] values none defined = absurd (cc defined)
  unseen_new (x ∷ xs) values none defined = grind (arith, put.at, bytes_eq-Decides, less_here, unseen_less xs, unseen_new xs values none)

pub unread_push : (stack : List Step) (top : Step) → unread_all (stack ++ top ∷ []) ≡ unread_all stack + suc (unread top)
unread_push [] top = omega arith
unread_push (f ∷ fs) top = omega (arith, unread_push fs top)
