-- Requests at a path of each region stand for all of their kind at two labels.
use Rattle.std.proofs.Common.{◌≡◌, ℕ, ◌+◌, ◌<◌, ◌≤◌, inl, inr, max, min, List, ◌++◌, length, Contains, refl, sym, subst, arith, ⊎_elim}
use Rattle.std.proofs.lemmas.Bool.{cases_lt}
use Rattle.std.proofs.lemmas.List.Elements.{Contains-append_left, Contains-append_right, Contains-append_cases}
use Rattle.std.proofs.lemmas.Option.{slice_get_past}
use Rattle.aa_base.specs.Tables.{capability_names, family_names, sock_type_names}
use Rattle.aa_model.specs.declared.policy.Policy.{Policy}
use Rattle.aa_model.specs.declared.label.Label.{Label}
use Rattle.aa_model.specs.declared.request.Request.{Request}
use Rattle.aa_model.specs.declared.request.Request.TheVariants.{File, Link, Exec, Cap, Net, Change, Reload}
use Rattle.aa_regions.specs.declared.regions.Region.{Region}
use Rattle.aa_regions.specs.Regions.{ArePathRegions}
use Rattle.aa_representatives.specs.Askable.{IsFile, IsLink, IsExec, IsCap, IsNet, IsChange, IsReload, IsAskable}
use Rattle.aa_representatives.specs.Both.{deciding_both, filing_both, StandAtBoth, RepresentBoth, Represent, AreLinkPathsOfBoth}
use Rattle.aa_representatives.specs.Representatives.{Adds, HasFiles, HasExecs, HasLinks}
use Rattle.aa_representatives.proofs.BothSaid.{one_alike, other_alike}
use Rattle.aa_representatives.proofs.Filing.{one_by_rules, other_by_rules}
use Rattle.aa_representatives.proofs.Linking.{link_at, links_said_alike}
use Rattle.aa_representatives.proofs.Reloading.{reloads_reply_alike}
use Rattle.aa_representatives.proofs.Replied.{execs_reply_alike}
use Rattle.aa_representatives.proofs.Standing.{region_of, mask_small}

-- each kind can be asked
pub file_askable : (r : Request) → IsFile r → IsAskable r
file_askable r k = inl k

pub link_askable : (r : Request) → IsLink r → IsAskable r
link_askable r k = inr (inl k)

pub exec_askable : (r : Request) → IsExec r → IsAskable r
exec_askable r k = inr (inr (inl k))

pub cap_askable : (r : Request) → IsCap r → IsAskable r
cap_askable r k = inr (inr (inr (inl k)))

pub net_askable : (r : Request) → IsNet r → IsAskable r
net_askable r k = inr (inr (inr (inr (inl k))))

pub change_askable : (r : Request) → IsChange r → IsAskable r
change_askable r k = inr (inr (inr (inr (inr (inl k)))))

pub reload_askable : (r : Request) → IsReload r → IsAskable r
reload_askable r k = inr (inr (inr (inr (inr (inr k)))))

-- requests of a kind that can be asked are added
pub askable_more : (Kind : Request → Type 0) → ((r : Request) → Kind r → IsAskable r) → (was now : List Request) → Adds Kind was now
    → ((r : Request) → Contains was r → IsAskable r) → (r : Request) → Contains now r → IsAskable r
askable_more Kind can was now adds before r c =
    ⊎_elim (before r) (λ (d : Contains adds.more r). can r (adds.each r d)) (Contains-append_cases was adds.more r (subst (λ (l : List Request). Contains l r) adds.are c))

module _ (ps : List Policy) (l : Label) (qs : List Policy) (m : Label) where
  pub stand_keep : (Kind : Request → Type 0) (was now : List Request) → ((r : Request) → Contains was r → Contains now r) → StandAtBoth ps l qs m Kind was → StandAtBoth ps l qs m Kind now
  stand_keep Kind was now keep stand r k = let q = stand r k in (q.0, keep q.0 q.1, q.2, q.3, q.4)

  module _ (rs : List Request) where
    module _ (regions : List Region) (are : ArePathRegions (filing_both ps l qs m) regions) where
      pub files_at_both : ((r : Region) → Contains regions r → HasFiles r.witness 128 rs) → StandAtBoth ps l qs m IsFile rs
      files_at_both has (File f) asked =
          let r = region_of (filing_both ps l qs m) regions are f.path asked.0 in
          let w = r.0.witness in (
            File (record { path = w; mask = f.mask; owned = f.owned }),
            has r.0 r.1 f.mask.0 f.owned (mask_small f.mask.0 asked.1) asked.1,
            refl,
            one_by_rules ps l qs m f.path w r.2 f.mask f.owned,
            other_by_rules ps l qs m f.path w r.2 f.mask f.owned,
          )
      files_at_both has (Link x) asked = absurd asked
      files_at_both has (Exec x) asked = absurd asked
      files_at_both has (Cap c) asked = absurd asked
      files_at_both has (Net f s) asked = absurd asked
      files_at_both has (Change name) asked = absurd asked
      files_at_both has (Reload k) asked = absurd asked

    module _ (regions : List Region) (are : ArePathRegions (deciding_both ps l qs m) regions) where
      pub execs_at_both : ((r : Region) → Contains regions r → HasExecs r.witness rs) → StandAtBoth ps l qs m IsExec rs
      execs_at_both has (Exec x) asked =
          let r = region_of (deciding_both ps l qs m) regions are x.path asked in
          let w = r.0.witness in (
            Exec (record { path = w; owned = x.owned }),
            has r.0 r.1 x.owned,
            refl,
            execs_reply_alike ps x.path w l (one_alike ps l qs m x.path w r.2) x.owned,
            execs_reply_alike qs x.path w m (other_alike ps l qs m x.path w r.2) x.owned,
          )
      execs_at_both has (File f) asked = absurd asked
      execs_at_both has (Link x) asked = absurd asked
      execs_at_both has (Cap c) asked = absurd asked
      execs_at_both has (Net f s) asked = absurd asked
      execs_at_both has (Change name) asked = absurd asked
      execs_at_both has (Reload k) asked = absurd asked

    pub links_at_both : (paths : List (List ℕ)) → AreLinkPathsOfBoth ps l qs m paths → ((s u : List ℕ) → Contains paths s → Contains paths u → HasLinks s u rs) → StandAtBoth ps l qs m IsLink rs
    links_at_both paths are has (Link x) asked =
        let a = are.all x.link asked.0 in
        let b = are.all x.target asked.1 in (
          link_at a.0 b.0 x.owned,
          has a.0 b.0 a.1 b.1 x.owned,
          refl,
          links_said_alike ps x.link a.0 x.target b.0 x.owned l a.2 b.2,
          links_said_alike qs x.link a.0 x.target b.0 x.owned m a.3 b.3,
        )
    links_at_both paths are has (File f) asked = absurd asked
    links_at_both paths are has (Exec x) asked = absurd asked
    links_at_both paths are has (Cap c) asked = absurd asked
    links_at_both paths are has (Net f s) asked = absurd asked
    links_at_both paths are has (Change name) asked = absurd asked
    links_at_both paths are has (Reload k) asked = absurd asked

    pub caps_at_both : ((n : ℕ) → n < length capability_names → Contains rs (Cap n)) → StandAtBoth ps l qs m IsCap rs
    caps_at_both has (Cap c) asked = (Cap c, has c asked, refl, refl, refl)
    caps_at_both has (File f) asked = absurd asked
    caps_at_both has (Link x) asked = absurd asked
    caps_at_both has (Exec x) asked = absurd asked
    caps_at_both has (Net f s) asked = absurd asked
    caps_at_both has (Change name) asked = absurd asked
    caps_at_both has (Reload k) asked = absurd asked

    pub nets_at_both : ((f s : ℕ) → f < length family_names → s < length sock_type_names → Contains rs (Net f s)) → StandAtBoth ps l qs m IsNet rs
    nets_at_both has (Net f s) asked = (Net f s, has f s asked.0 asked.1, refl, refl, refl)
    nets_at_both has (File f) asked = absurd asked
    nets_at_both has (Link x) asked = absurd asked
    nets_at_both has (Exec x) asked = absurd asked
    nets_at_both has (Cap c) asked = absurd asked
    nets_at_both has (Change name) asked = absurd asked
    nets_at_both has (Reload k) asked = absurd asked

    pub reloads_at_both : (count : ℕ) → count ≡ min (max (length ps) (length qs)) 65535 + 1 → ((k : ℕ) → k < count → Contains rs (Reload k)) → StandAtBoth ps l qs m IsReload rs
    reloads_at_both count is has (Reload k) asked =
        ⊎_elim
        (λ (lt : k < count). (Reload k, has k lt, refl, refl, refl))
        (λ (le : count ≤ k).
        let none = max (length ps) (length qs) in
        let last : none < count = omega (arith, is, asked, le) in
        let one : length ps ≤ k = omega (arith, is, asked, le) in
        let other : length qs ≤ k = omega (arith, is, asked, le) in
        let one_none : length ps ≤ none = omega arith in
        let other_none : length qs ≤ none = omega arith in (
          Reload none,
          has none last,
          refl,
          reloads_reply_alike ps k none (slice_get_past ps k one) (slice_get_past ps none one_none) l,
          reloads_reply_alike qs k none (slice_get_past qs k other) (slice_get_past qs none other_none) m,
        ))
        (cases_lt k count)
    reloads_at_both count is has (File f) asked = absurd asked
    reloads_at_both count is has (Link x) asked = absurd asked
    reloads_at_both count is has (Exec x) asked = absurd asked
    reloads_at_both count is has (Cap c) asked = absurd asked
    reloads_at_both count is has (Net f s) asked = absurd asked
    reloads_at_both count is has (Change name) asked = absurd asked

    pub all_at_both : StandAtBoth ps l qs m IsFile rs → StandAtBoth ps l qs m IsLink rs → StandAtBoth ps l qs m IsExec rs → StandAtBoth ps l qs m IsCap rs → StandAtBoth ps l qs m IsNet rs
        → StandAtBoth ps l qs m IsChange rs → StandAtBoth ps l qs m IsReload rs → StandAtBoth ps l qs m IsAskable rs
    all_at_both files links execs caps nets changes reloads r (inl k) = files r k
    all_at_both files links execs caps nets changes reloads r (inr (inl k)) = links r k
    all_at_both files links execs caps nets changes reloads r (inr (inr (inl k))) = execs r k
    all_at_both files links execs caps nets changes reloads r (inr (inr (inr (inl k)))) = caps r k
    all_at_both files links execs caps nets changes reloads r (inr (inr (inr (inr (inl k))))) = nets r k
    all_at_both files links execs caps nets changes reloads r (inr (inr (inr (inr (inr (inl k)))))) = changes r k
    all_at_both files links execs caps nets changes reloads r (inr (inr (inr (inr (inr (inr k)))))) = reloads r k

-- where the other policies are none, one label is left
pub one_of_both : (ps : List Policy) (l : Label) (qs : List Policy) (m : Label) (rs : List Request) → RepresentBoth ps l qs m rs → Represent ps l rs
one_of_both ps l qs m rs both = record { each = both.each; all = λ r k. let q = both.all r k in (q.0, q.1, q.2, q.3) }

-- requests at paths, at names and by numbers together
module _ (ps : List Policy) (l : Label) (qs : List Policy) (m : Label) (paths names numbers both all : List Request) (e : both ≡ paths ++ names) (f : all ≡ both ++ numbers) where
  pub of_paths : (r : Request) → Contains paths r → Contains all r
  of_paths r c = subst (λ (x : List Request). Contains x r) (sym f) (Contains-append_left both numbers r (subst (λ (x : List Request). Contains x r) (sym e) (Contains-append_left paths names r c)))

  pub of_names : (r : Request) → Contains names r → Contains all r
  of_names r c = subst (λ (x : List Request). Contains x r) (sym f) (Contains-append_left both numbers r (subst (λ (x : List Request). Contains x r) (sym e) (Contains-append_right paths names r c)))

  pub of_numbers : (r : Request) → Contains numbers r → Contains all r
  of_numbers r c = subst (λ (x : List Request). Contains x r) (sym f) (Contains-append_right both numbers r c)

  pub each_of : ((r : Request) → Contains paths r → IsAskable r) → ((r : Request) → Contains names r → IsAskable r) → ((r : Request) → Contains numbers r → IsAskable r) → (r : Request) → Contains all r → IsAskable r
  each_of x y z r c =
      ⊎_elim
      (λ (d : Contains both r). ⊎_elim (x r) (y r) (Contains-append_cases paths names r (subst (λ (x : List Request). Contains x r) e d)))
      (z r)
      (Contains-append_cases both numbers r (subst (λ (x : List Request). Contains x r) f c))

  pub represent_both : ((r : Request) → Contains paths r → IsAskable r) → ((r : Request) → Contains names r → IsAskable r) → ((r : Request) → Contains numbers r → IsAskable r)
      → StandAtBoth ps l qs m IsFile paths → StandAtBoth ps l qs m IsLink paths → StandAtBoth ps l qs m IsExec paths
      → StandAtBoth ps l qs m IsCap numbers → StandAtBoth ps l qs m IsNet numbers → StandAtBoth ps l qs m IsChange names → StandAtBoth ps l qs m IsReload numbers
      → RepresentBoth ps l qs m all
  represent_both x y z files links execs caps nets changes reloads = record {
    each = each_of x y z;
    all = all_at_both ps l qs m all
        (stand_keep ps l qs m IsFile paths all of_paths files) (stand_keep ps l qs m IsLink paths all of_paths links) (stand_keep ps l qs m IsExec paths all of_paths execs)
        (stand_keep ps l qs m IsCap numbers all of_numbers caps) (stand_keep ps l qs m IsNet numbers all of_numbers nets)
        (stand_keep ps l qs m IsChange names all of_names changes) (stand_keep ps l qs m IsReload numbers all of_numbers reloads);
  }
