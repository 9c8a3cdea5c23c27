-- Requests at a path of each region stand for all of their kind at two labels, those that one more pattern matches for such alone.
use Rattle.std.proofs.Common.{◌≡◌, ℕ, ◌⊎◌, inl, inr, ⊎_elim, List, [], ◌∷◌, ◌++◌, Contains, refl, sym, ◌∙◌, subst}
use Rattle.aa_pattern.specs.declared.pattern.Pattern.{Pattern}
use Rattle.aa_model.specs.declared.policy.Policy.{Policy}
use Rattle.aa_model.specs.declared.label.Label.{Label}
use Rattle.aa_model.specs.declared.request.Request.{Request}
use Rattle.aa_model.specs.declared.request.Request.TheVariants.{File, Link, Exec, Cap, Net, Change, Reload}
use Rattle.aa_regions.specs.declared.regions.Region.{Region}
use Rattle.aa_regions.specs.Regions.{ArePathRegions}
use Rattle.aa_representatives.specs.Askable.{IsFile, IsLink, IsExec, IsCap, IsNet, IsChange, IsReload, IsAskable, Kind, OfFile, OfLink, OfExec, kind_of}
use Rattle.aa_representatives.specs.Both.{deciding_both, filing_both, StandAtBoth}
use Rattle.aa_representatives.specs.Apart.{HasMatched, StandApart, RepresentApart, AreLinkPathsApart}
use Rattle.aa_representatives.specs.Representatives.{HasFiles, HasExecs, HasLinks}
use Rattle.aa_representatives.proofs.ApartSaid.{alike_front, alike_last}
use Rattle.aa_representatives.proofs.BothSaid.{one_alike, other_alike}
use Rattle.aa_representatives.proofs.Filing.{one_by_rules, other_by_rules}
use Rattle.aa_representatives.proofs.BothStanding.{of_paths, of_names, of_numbers, each_of}
use Rattle.aa_representatives.proofs.Linking.{link_at, links_said_alike}
use Rattle.aa_representatives.proofs.Replied.{execs_reply_alike}
use Rattle.aa_representatives.proofs.Standing.{region_of, mask_small}

-- requests of the kind have no path
abbrev IsPathless : Kind → Type 0
IsPathless OfFile = ⊥
IsPathless OfLink = ⊥
IsPathless OfExec = ⊥
IsPathless _ = Unit {0}

unmatched : (p : Pattern) (q : Request) (k : Kind) → kind_of q ≡ k → IsPathless k → HasMatched p q → ⊥
unmatched p (File f) k e less h = subst IsPathless (sym e) less
unmatched p (Link x) k e less h = subst IsPathless (sym e) less
unmatched p (Exec x) k e less h = subst IsPathless (sym e) less
unmatched p (Cap c) k e less h = h
unmatched p (Net f s) k e less h = h
unmatched p (Change name) k e less h = h
unmatched p (Reload m) k e less h = h

of_cap : (r : Request) → IsCap r → IsPathless (kind_of r)
of_cap (File f) is = absurd is
of_cap (Link x) is = absurd is
of_cap (Exec x) is = absurd is
of_cap (Cap c) is = tt
of_cap (Net f s) is = absurd is
of_cap (Change name) is = absurd is
of_cap (Reload k) is = absurd is

of_net : (r : Request) → IsNet r → IsPathless (kind_of r)
of_net (File f) is = absurd is
of_net (Link x) is = absurd is
of_net (Exec x) is = absurd is
of_net (Cap c) is = absurd is
of_net (Net f s) is = tt
of_net (Change name) is = absurd is
of_net (Reload k) is = absurd is

of_change : (r : Request) → IsChange r → IsPathless (kind_of r)
of_change (File f) is = absurd is
of_change (Link x) is = absurd is
of_change (Exec x) is = absurd is
of_change (Cap c) is = absurd is
of_change (Net f s) is = absurd is
of_change (Change name) is = tt
of_change (Reload k) is = absurd is

of_reload : (r : Request) → IsReload r → IsPathless (kind_of r)
of_reload (File f) is = absurd is
of_reload (Link x) is = absurd is
of_reload (Exec x) is = absurd is
of_reload (Cap c) is = absurd is
of_reload (Net f s) is = absurd is
of_reload (Change name) is = absurd is
of_reload (Reload k) is = tt

module _ (ps : List Policy) (l : Label) (qs : List Policy) (m : Label) (p : Pattern) where
  pub apart_keep : (Wanted : Request → Type 0) (was now : List Request) → ((r : Request) → Contains was r → Contains now r)
      → StandApart ps l qs m p Wanted was → StandApart ps l qs m p Wanted now
  apart_keep Wanted was now keep stand r k = let q = stand r k in (q.0, keep q.0 q.1, q.2, q.3, q.4, q.5)

  module _ (rs : List Request) where
    module _ (regions : List Region) (are : ArePathRegions (filing_both ps l qs m ++ p ∷ []) regions) where
      pub files_apart : ((r : Region) → Contains regions r → HasFiles r.witness 128 rs) → StandApart ps l qs m p IsFile rs
      files_apart has (File f) asked =
          let r = region_of (filing_both ps l qs m ++ p ∷ []) regions are f.path asked.0 in
          let w = r.0.witness in
          let alike = alike_front (filing_both ps l qs m) p f.path w r.2 in (
            File (record { path = w; mask = f.mask; owned = f.owned }),
            has r.0 r.1 f.mask.0 f.owned (mask_small f.mask.0 asked.1) asked.1,
            refl,
            one_by_rules ps l qs m f.path w alike f.mask f.owned,
            other_by_rules ps l qs m f.path w alike f.mask f.owned,
            λ e. alike_last (filing_both ps l qs m) p f.path w r.2 ∙ e,
          )
      files_apart has (Link x) asked = absurd asked
      files_apart has (Exec x) asked = absurd asked
      files_apart has (Cap c) asked = absurd asked
      files_apart has (Net f s) asked = absurd asked
      files_apart has (Change name) asked = absurd asked
      files_apart has (Reload k) asked = absurd asked

    module _ (regions : List Region) (are : ArePathRegions (deciding_both ps l qs m ++ p ∷ []) regions) where
      pub execs_apart : ((r : Region) → Contains regions r → HasExecs r.witness rs) → StandApart ps l qs m p IsExec rs
      execs_apart has (Exec x) asked =
          let r = region_of (deciding_both ps l qs m ++ p ∷ []) regions are x.path asked in
          let w = r.0.witness in
          let alike = alike_front (deciding_both ps l qs m) p x.path w r.2 in (
            Exec (record { path = w; owned = x.owned }),
            has r.0 r.1 x.owned,
            refl,
            execs_reply_alike ps x.path w l (one_alike ps l qs m x.path w alike) x.owned,
            execs_reply_alike qs x.path w m (other_alike ps l qs m x.path w alike) x.owned,
            λ e. alike_last (deciding_both ps l qs m) p x.path w r.2 ∙ e,
          )
      execs_apart has (File f) asked = absurd asked
      execs_apart has (Link x) asked = absurd asked
      execs_apart has (Cap c) asked = absurd asked
      execs_apart has (Net f s) asked = absurd asked
      execs_apart has (Change name) asked = absurd asked
      execs_apart has (Reload k) asked = absurd asked

    pub links_apart : (paths : List (List ℕ)) → AreLinkPathsApart ps l qs m p paths
        → ((s u : List ℕ) → Contains paths s → Contains paths u → HasLinks s u rs) → StandApart ps l qs m p IsLink rs
    links_apart paths are has (Link x) asked =
        let a = are.all x.link asked.0 in
        let b = are.all x.target asked.1 in (
          link_at a.0 b.0 x.owned,
          has a.0 b.0 a.1 b.1 x.owned,
          refl,
          links_said_alike ps x.link a.0 x.target b.0 x.owned l a.2 b.2,
          links_said_alike qs x.link a.0 x.target b.0 x.owned m a.3 b.3,
          λ e. ⊎_elim (λ f. inl (a.4 f)) (λ f. inr (b.4 f)) e,
        )
    links_apart paths are has (File f) asked = absurd asked
    links_apart paths are has (Exec x) asked = absurd asked
    links_apart paths are has (Cap c) asked = absurd asked
    links_apart paths are has (Net f s) asked = absurd asked
    links_apart paths are has (Change name) asked = absurd asked
    links_apart paths are has (Reload k) asked = absurd asked

    -- requests without a path have none that the pattern matches
    module _ (Wanted : Request → Type 0) (pathless : (r : Request) → Wanted r → IsPathless (kind_of r)) where
      pub others_apart : StandAtBoth ps l qs m Wanted rs → StandApart ps l qs m p Wanted rs
      others_apart stand r k = let q = stand r k in (q.0, q.1, q.2, q.3, q.4, λ h. absurd (unmatched p q.0 (kind_of r) (sym q.2) (pathless r k) h))

    pub all_apart : StandApart ps l qs m p IsFile rs → StandApart ps l qs m p IsLink rs → StandApart ps l qs m p IsExec rs
        → StandApart ps l qs m p IsCap rs → StandApart ps l qs m p IsNet rs
        → StandApart ps l qs m p IsChange rs → StandApart ps l qs m p IsReload rs → StandApart ps l qs m p IsAskable rs
    all_apart files links execs caps nets changes reloads r (inl k) = files r k
    all_apart files links execs caps nets changes reloads r (inr (inl k)) = links r k
    all_apart files links execs caps nets changes reloads r (inr (inr (inl k))) = execs r k
    all_apart files links execs caps nets changes reloads r (inr (inr (inr (inl k)))) = caps r k
    all_apart files links execs caps nets changes reloads r (inr (inr (inr (inr (inl k))))) = nets r k
    all_apart files links execs caps nets changes reloads r (inr (inr (inr (inr (inr (inl k)))))) = changes r k
    all_apart files links execs caps nets changes reloads r (inr (inr (inr (inr (inr (inr k)))))) = reloads r k

-- requests at paths, at names and by numbers together
module _ (ps : List Policy) (l : Label) (qs : List Policy) (m : Label) (p : Pattern)
    (paths names numbers both all : List Request) (e : both ≡ paths ++ names) (f : all ≡ both ++ numbers) where
  pub represent_apart : ((r : Request) → Contains paths r → IsAskable r) → ((r : Request) → Contains names r → IsAskable r)
      → ((r : Request) → Contains numbers r → IsAskable r)
      → StandApart ps l qs m p IsFile paths → StandApart ps l qs m p IsLink paths → StandApart ps l qs m p IsExec paths
      → StandAtBoth ps l qs m IsCap numbers → StandAtBoth ps l qs m IsNet numbers
      → StandAtBoth ps l qs m IsChange names → StandAtBoth ps l qs m IsReload numbers
      → RepresentApart ps l qs m p all
  represent_apart x y z files links execs caps nets changes reloads = record {
    each = each_of ps l qs m paths names numbers both all e f x y z;
    all = all_apart ps l qs m p all
        (keep_paths IsFile files) (keep_paths IsLink links) (keep_paths IsExec execs)
        (keep_numbers IsCap of_cap caps) (keep_numbers IsNet of_net nets) (keep_names IsChange of_change changes) (keep_numbers IsReload of_reload reloads);
  }
    where
      keep_paths : (Wanted : Request → Type 0) → StandApart ps l qs m p Wanted paths → StandApart ps l qs m p Wanted all
      keep_paths Wanted stand = apart_keep ps l qs m p Wanted paths all (of_paths ps l qs m paths names numbers both all e f) stand

      keep_names : (Wanted : Request → Type 0) → ((r : Request) → Wanted r → IsPathless (kind_of r))
          → StandAtBoth ps l qs m Wanted names → StandApart ps l qs m p Wanted all
      keep_names Wanted less stand =
          apart_keep ps l qs m p Wanted names all (of_names ps l qs m paths names numbers both all e f)
          (others_apart ps l qs m p names Wanted less stand)

      keep_numbers : (Wanted : Request → Type 0) → ((r : Request) → Wanted r → IsPathless (kind_of r))
          → StandAtBoth ps l qs m Wanted numbers → StandApart ps l qs m p Wanted all
      keep_numbers Wanted less stand =
          apart_keep ps l qs m p Wanted numbers all (of_numbers ps l qs m paths names numbers both all e f)
          (others_apart ps l qs m p numbers Wanted less stand)
