-- Requests at the paths of the regions that the word's pattern matches stand for all of the word.
use Rattle.std.proofs.Common.{◌≡◌, ℕ, zero, suc, ◌≤◌, List, [], ◌∷◌, ◌++◌, Bool, true, false}
use Rattle.std.proofs.Common.{Contains, length, refl, sym, ◌∙◌, subst, arith}
use Rattle.std.specs.Prelude.{if◌then◌else◌}
use Rattle.std.proofs.lemmas.List.Elements.{Contains-append_left, Contains-append_right, Contains-push}
use Rattle.aa_pattern.specs.Matching.{is_match}
use Rattle.aa_pattern.proofs.Decided.{decided}
use Rattle.aa_pattern.specs.declared.pattern.Pattern.{Pattern}
use Rattle.aa_base.specs.declared.perms.Perms.{Perms}
use Rattle.aa_model.specs.declared.policy.Policy.{Policy}
use Rattle.aa_model.specs.declared.label.Label.{Label}
use Rattle.aa_model.specs.declared.request.Request.{Request}
use Rattle.aa_model.specs.declared.request.Request.TheVariants.{File, Link, Exec, Cap, Net, Change, Reload}
use Rattle.aa_regions.specs.declared.regions.Region.{Region}
use Rattle.aa_regions.specs.Automata.{ArePathRegionsWithin}
use Rattle.aa_regions.specs.Regions.{IsAsked}
use Rattle.aa_mediate.specs.Reply.{reply}
use Rattle.aa_representatives.specs.Alike.{MatchAlike, filing, deciding}
use Rattle.aa_representatives.proofs.Filing.{files_by_rules}
use Rattle.aa_representatives.proofs.Standing.{same_list}
use Rattle.aa_representatives.proofs.Replied.{execs_reply_alike}
use Rattle.aa_unclean_paths.specs.Components.{IsUnclean}
use Rattle.aa_unclean_paths.specs.Told.{TellsUnclean}
use Rattle.aa_quantifiers.specs.declared.order.Order.{Order}
use Rattle.aa_quantifiers.specs.declared.order.Order.TheVariants.{Short, Clean}
use Rattle.aa_quantifiers.specs.declared.word.FilesWord.{FilesWord}
use Rattle.aa_quantifiers.specs.declared.word.ExecsWord.{ExecsWord}
use Rattle.aa_quantifiers.specs.declared.word.Word.TheVariants.{Files, Execs, One}
use Rattle.aa_auto.specs.Tables.{HasPlaces}
use Rattle.aa_compile.specs.Patterns.{is_literal}
use Rattle.aa_quantifiers.specs.Words.{IsOf, beside}
use Rattle.aa_quantifiers.specs.Orders.{Before}
use Rattle.aa_quantifiers.specs.Candidates.{HasFilesOf, HasExecsOf}
use Rattle.aa_quantifiers.specs.Quantities.{StandForWord}
use Rattle.aa_quantifiers.proofs.Ordered.{itself}

-- the region of a path that one more pattern matches, by that and still more patterns
record IsFound (ps : List Pattern) (p : Pattern) (more : List Pattern) (regions : List Region) (s : List ℕ) : Type 0 where
  region : Region
  there : Contains regions region
  asked : IsAsked region.witness
  matched : is_match p.items.items region.witness ≡ true
  alike : MatchAlike ps s region.witness
  alike_more : MatchAlike more s region.witness
  short : length region.witness ≤ length s

found : (ps : List Pattern) (p : Pattern) (more : List Pattern) (regions : List Region) → ArePathRegionsWithin (more ++ ps) p regions
    → (s : List ℕ) → IsAsked s → is_match p.items.items s ≡ true → IsFound ps p more regions s
found ps p more regions are s asked matched =
    let r = are.all s asked ((decided p.items.items s).0 matched) in
    let each = are.each r.0 r.1 r.2 in
    let alike = same_list ((more ++ ps) ++ p ∷ []) s r.0.witness r.0.numbers r.3 each.lists in
    record {
      region = r.0;
      there = r.1;
      asked = each.asked;
      matched = sym (alike p (Contains-push (more ++ ps) p)) ∙ matched;
      alike = λ q c. alike q (Contains-append_left (more ++ ps) (p ∷ []) q (Contains-append_right more ps q c));
      alike_more = λ q c. alike q (Contains-append_left (more ++ ps) (p ∷ []) q (Contains-append_left more ps q c));
      short = each.shortest s asked r.3;
    }

-- paths that such patterns match alike come in the order of their lengths
abbrev IsOrdered : Order → List Pattern → Type 0
IsOrdered Short more = Unit {0}
IsOrdered Clean more = (u s : List ℕ) → IsAsked u → IsAsked s → MatchAlike more s u → IsUnclean u → IsUnclean s

-- a pattern that tells unclean paths is such
tells_order : (p : Pattern) → TellsUnclean p → IsOrdered Clean (p ∷ [])
tells_order p tells u s u_asked s_asked alike unclean =
    (tells s s_asked).0 (alike p (Contains-append_left (p ∷ []) [] p (0, omega arith, refl)) ∙ (tells u u_asked).1 unclean)

file_before : (order : Order) (more : List Pattern) → IsOrdered order more → (u s : List ℕ) (mask : Perms) (owned : Bool) → IsAsked u → IsAsked s
    → MatchAlike more s u → length u ≤ length s
    → Before order (File (record { path = u; mask = mask; owned = owned })) (File (record { path = s; mask = mask; owned = owned }))
file_before Short more ordered u s mask owned u_asked s_asked alike short = short
file_before Clean more ordered u s mask owned u_asked s_asked alike short = record { clean = ordered u s u_asked s_asked alike; short = λ _. short }

exec_before : (order : Order) (more : List Pattern) → IsOrdered order more → (u s : List ℕ) (owned : Bool) → IsAsked u → IsAsked s
    → MatchAlike more s u → length u ≤ length s
    → Before order (Exec (record { path = u; owned = owned })) (Exec (record { path = s; owned = owned }))
exec_before Short more ordered u s owned u_asked s_asked alike short = short
exec_before Clean more ordered u s owned u_asked s_asked alike short = record { clean = ordered u s u_asked s_asked alike; short = λ _. short }

module _ (policies : List Policy) (label : Label) (order : Order) (more : List Pattern) (ordered : IsOrdered order more) (regions : List Region)
    (rs : List Request) where
  module _ (w : FilesWord) (are : ArePathRegionsWithin (more ++ filing policies label) w.pattern regions)
      (has : (r : Region) → Contains regions r → is_match w.pattern.items.items r.witness ≡ true → HasFilesOf w.whose r.witness w.masks rs) where
    file_for : (r : Request) → IsOf (Files w) r → (q : Request) × Contains rs q × (reply policies label r ≡ reply policies label q) × Before order q r
    file_for (File f) is =
        let r = found (filing policies label) w.pattern more regions are f.path is.asked is.matched in (
          File (record { path = r.region.witness; mask = f.mask; owned = f.owned }),
          has r.region r.there r.matched f.mask is.among f.owned is.mask is.whose,
          files_by_rules policies f.path r.region.witness label r.alike f.mask f.owned,
          file_before order more ordered r.region.witness f.path f.mask f.owned r.asked is.asked r.alike_more r.short,
        )
    file_for (Link l) is = absurd is
    file_for (Exec e) is = absurd is
    file_for (Cap c) is = absurd is
    file_for (Net f s) is = absurd is
    file_for (Change name) is = absurd is
    file_for (Reload m) is = absurd is

    files_stand_in : ((r : Request) → Contains rs r → IsOf (Files w) r) → StandForWord policies label order (Files w) rs
    files_stand_in each = record { each = each; all = file_for }

  module _ (w : ExecsWord) (are : ArePathRegionsWithin (more ++ deciding policies label) w.pattern regions)
      (has : (r : Region) → Contains regions r → is_match w.pattern.items.items r.witness ≡ true → HasExecsOf w.whose r.witness rs) where
    exec_for : (r : Request) → IsOf (Execs w) r → (q : Request) × Contains rs q × (reply policies label r ≡ reply policies label q) × Before order q r
    exec_for (Exec x) is =
        let r = found (deciding policies label) w.pattern more regions are x.path is.asked is.matched in (
          Exec (record { path = r.region.witness; owned = x.owned }),
          has r.region r.there r.matched x.owned is.whose,
          execs_reply_alike policies x.path r.region.witness label r.alike x.owned,
          exec_before order more ordered r.region.witness x.path x.owned r.asked is.asked r.alike_more r.short,
        )
    exec_for (File f) is = absurd is
    exec_for (Link l) is = absurd is
    exec_for (Cap c) is = absurd is
    exec_for (Net f s) is = absurd is
    exec_for (Change name) is = absurd is
    exec_for (Reload m) is = absurd is

    execs_stand_in : ((r : Request) → Contains rs r → IsOf (Execs w) r) → StandForWord policies label order (Execs w) rs
    execs_stand_in each = record { each = each; all = exec_for }

-- by the regions of the rules and the word's pattern, and by those of a pattern more that tells unclean paths
module _ (policies : List Policy) (label : Label) (regions : List Region) (rs : List Request) where
  module _ (w : FilesWord)
      (has : (r : Region) → Contains regions r → is_match w.pattern.items.items r.witness ≡ true → HasFilesOf w.whose r.witness w.masks rs)
      (each : (r : Request) → Contains rs r → IsOf (Files w) r) where
    pub files_stand : ArePathRegionsWithin (filing policies label) w.pattern regions → StandForWord policies label Short (Files w) rs
    files_stand are = files_stand_in policies label Short [] tt regions rs w are has each

    pub clean_files_stand : (p : Pattern) → TellsUnclean p → ArePathRegionsWithin (p ∷ filing policies label) w.pattern regions
        → StandForWord policies label Clean (Files w) rs
    clean_files_stand p tells are = files_stand_in policies label Clean (p ∷ []) (tells_order p tells) regions rs w are has each

  module _ (w : ExecsWord) (has : (r : Region) → Contains regions r → is_match w.pattern.items.items r.witness ≡ true → HasExecsOf w.whose r.witness rs)
      (each : (r : Request) → Contains rs r → IsOf (Execs w) r) where
    pub execs_stand : ArePathRegionsWithin (deciding policies label) w.pattern regions → StandForWord policies label Short (Execs w) rs
    execs_stand are = execs_stand_in policies label Short [] tt regions rs w are has each

    pub clean_execs_stand : (p : Pattern) → TellsUnclean p → ArePathRegionsWithin (p ∷ deciding policies label) w.pattern regions
        → StandForWord policies label Clean (Execs w) rs
    clean_execs_stand p tells are = execs_stand_in policies label Clean (p ∷ []) (tells_order p tells) regions rs w are has each

-- the one request stands for itself
pub one_stands : (policies : List Policy) (label : Label) (order : Order) (r : Request) (rs : List Request) → rs ≡ r ∷ []
    → StandForWord policies label order (One r) rs
one_stands policies label order r rs e = record {
  each = λ q c. only r q (subst (λ (l : List Request). Contains l q) e c);
  all = λ q is. (
    r,
    subst (λ (l : List Request). Contains l r) (sym e) (0, omega arith, refl),
    subst (λ (x : Request). reply policies label x ≡ reply policies label r) is refl,
    subst (λ (x : Request). Before order r x) is (itself order r),
  );
}
  where
    only : (x y : Request) → Contains (x ∷ []) y → x ≡ y
    only x y (zero, lt, f) = f
    only x y (suc k, lt, f) = absurd (omega (arith, lt))

-- a pattern with a wildcard has to be told apart with the others
pub places_beside : (ps : List Pattern) (w : Pattern) (n : ℕ) → is_literal w ≡ false → HasPlaces (ps ++ w ∷ []) n → HasPlaces (beside ps w) n
places_beside ps w n wild places = subst (λ (b : Bool). HasPlaces (if b then [] else ps ++ w ∷ []) n) (sym wild) places
