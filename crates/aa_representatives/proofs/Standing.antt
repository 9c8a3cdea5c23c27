-- Requests at a path of each region stand for all of their kind.
use Rattle.std.proofs.Common.{◌≡◌, ℕ, ◌<◌, List, [], Bool, true, false, Some, Contains, refl, sym, ap, ◌∙◌, subst, arith}
use Rattle.std.specs.Prelude.{not, ◌&&◌, ◌==◌, nat_le, bit_and}
use Rattle.std.specs.List.{slice_get}
use Rattle.std.proofs.lemmas.Bool.{and_parts, leb-true}
use Rattle.std.proofs.lemmas.Option.{same_Some, slice_get-get_or}
use Rattle.aa_base.specs.Permissions.{link_and_exec, every_permission}
use Rattle.aa_pattern.specs.Globs.{Matches}
use Rattle.aa_pattern.specs.declared.pattern.Pattern.{Pattern}
use Rattle.aa_pattern.specs.Matching.{is_match}
use Rattle.aa_pattern.proofs.Decided.{decided}
use Rattle.aa_auto.specs.Tables.{ListsMatching}
use Rattle.aa_model.specs.Requests.{is_mask}
use Rattle.aa_model.specs.declared.policy.Policy.{Policy}
use Rattle.aa_model.specs.declared.label.Label.{Label}
use Rattle.aa_model.specs.declared.request.Request.{Request}
use Rattle.aa_model.specs.declared.request.Request.TheVariants.{File, Link, Exec, Cap, Net, Change, Reload}
use Rattle.aa_regions.specs.declared.regions.Region.{Region}
use Rattle.aa_regions.specs.Regions.{IsAsked, ArePathRegions}
use Rattle.aa_mediate.specs.Reply.{reply}
use Rattle.aa_representatives.specs.Alike.{MatchAlike, deciding}
use Rattle.aa_representatives.specs.Askable.{IsFile, IsExec}
use Rattle.aa_representatives.specs.Representatives.{AreRepresentatives, Adds, HasFiles, HasExecs}
use Rattle.aa_representatives.proofs.Adding.{adds_each}
use Rattle.aa_representatives.proofs.Replied.{files_reply_alike, execs_reply_alike}

pub same_Bool : (a b : Bool) → (a ≡ true → b ≡ true) → (b ≡ true → a ≡ true) → a ≡ b
same_Bool true b f g = sym (f refl)
same_Bool false true f g = absurd (let e : false ≡ true = g refl in cc)
same_Bool false false f g = refl

one_way : (ps : List Pattern) (s u numbers : List ℕ) → ListsMatching ps s numbers → ListsMatching ps u numbers → (p : Pattern) → Contains ps p → is_match p.items.items s ≡ true → is_match p.items.items u ≡ true
one_way ps s u numbers f g p c e =
    let at : slice_get ps c.0 ≡ Some p = slice_get-get_or ps c.0 p c.1 ∙ ap Some c.2 in
    let in' = (f.exact c.0).1 (p, at, (decided p.items.items s).0 e) in
    let q = (g.exact c.0).0 in' in
    (decided p.items.items u).1 (subst (λ (x : Pattern). Matches x.items.items u) (same_Some q.0 p (sym q.1 ∙ at)) q.2)

-- texts with the same list of patterns
pub same_list : (ps : List Pattern) (s u numbers : List ℕ) → ListsMatching ps s numbers → ListsMatching ps u numbers → MatchAlike ps s u
same_list ps s u numbers f g p c = same_Bool (is_match p.items.items s) (is_match p.items.items u) (one_way ps s u numbers f g p c) (one_way ps u s numbers g f p c)

-- a path that can be asked for is matched as that of its region
pub region_of : (ps : List Pattern) (regions : List Region) → ArePathRegions ps regions → (s : List ℕ) → IsAsked s → (r : Region) × Contains regions r × MatchAlike ps s r.witness
region_of ps regions are s asked =
    let r = are.all s asked in
    (r.0, r.1, same_list ps s r.0.witness r.0.numbers r.2 (are.each r.0 r.1).lists)

pub mask_small : (m : ℕ) → is_mask m ≡ true → m < 128
mask_small m e = let l = leb-true m 127 (and_parts (not (m == 0) && bit_and m link_and_exec == 0) (nat_le m every_permission) e).1 in omega (arith, l)

module _ (policies : List Policy) (label : Label) (regions : List Region) (are : ArePathRegions (deciding policies label) regions) (rs : List Request) where
  module _ (has : (r : Region) → Contains regions r → HasFiles r.witness 128 rs) where
    file_for : (r : Request) → IsFile r → (q : Request) × Contains rs q × (reply policies label r ≡ reply policies label q)
    file_for (File f) asked =
        let r = region_of (deciding policies label) regions are f.path asked.0 in
        (File (record { path = r.0.witness; mask = f.mask; owned = f.owned }), has r.0 r.1 f.mask.0 f.owned (mask_small f.mask.0 asked.1) asked.1, files_reply_alike policies f.path r.0.witness label r.2 f.mask f.owned)
    file_for (Link l) asked = absurd asked
    file_for (Exec e) asked = absurd asked
    file_for (Cap c) asked = absurd asked
    file_for (Net f s) asked = absurd asked
    file_for (Change name) asked = absurd asked
    file_for (Reload m) asked = absurd asked

    pub files_stand : (none : List Request) → none ≡ [] → Adds IsFile none rs → AreRepresentatives policies label IsFile rs
    files_stand none e adds = record { each = adds_each IsFile none rs e adds; all = file_for }

  module _ (has : (r : Region) → Contains regions r → HasExecs r.witness rs) where
    exec_for : (r : Request) → IsExec r → (q : Request) × Contains rs q × (reply policies label r ≡ reply policies label q)
    exec_for (Exec x) asked =
        let r = region_of (deciding policies label) regions are x.path asked in
        (Exec (record { path = r.0.witness; owned = x.owned }), has r.0 r.1 x.owned, execs_reply_alike policies x.path r.0.witness label r.2 x.owned)
    exec_for (File f) asked = absurd asked
    exec_for (Link l) asked = absurd asked
    exec_for (Cap c) asked = absurd asked
    exec_for (Net f s) asked = absurd asked
    exec_for (Change name) asked = absurd asked
    exec_for (Reload m) asked = absurd asked

    pub execs_stand : (none : List Request) → none ≡ [] → Adds IsExec none rs → AreRepresentatives policies label IsExec rs
    execs_stand none e adds = record { each = adds_each IsExec none rs e adds; all = exec_for }
