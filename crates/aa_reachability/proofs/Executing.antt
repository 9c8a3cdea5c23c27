-- Executions of the files that rules name one by one, and of those that stand for all.
use Rattle.std.proofs.Common.{◌≡◌, ◌⊎◌, ℕ, ◌≤◌, Bool, true, false, cond, List, [], ◌∷◌, ◌++◌, length, arith, Option, Some, None, Contains, inl, inr, refl, sym, ap, ◌∙◌, subst, ⊎_elim, Vec}
use Rattle.std.specs.Prelude.{◌&&◌, ◌||◌, ◌==◌, not, IfSome}
use Rattle.std.specs.declared.alloc.Global.{Global}
use Rattle.std.specs.List.{slice_get, list_any}
use Rattle.std.specs.Option.{option_map_or}
use Rattle.std.proofs.lemmas.Bool.{and_parts}
use Rattle.std.proofs.lemmas.List.Elements.{Contains-append_left, Contains-append_right}
use Rattle.aa_pattern.specs.declared.pattern.Pattern.{Pattern}
use Rattle.aa_pattern.specs.Matching.{is_match}
use Rattle.aa_model.specs.Lawful.{has_exec}
use Rattle.aa_model.specs.Requests.{RequestedExec}
use Rattle.aa_model.specs.declared.rule.Exec.{Exec as Way}
use Rattle.aa_model.specs.declared.rule.FileRule.{FileRule}
use Rattle.aa_model.specs.declared.policy.Policy.{Policy}
use Rattle.aa_model.specs.declared.policy.Profile.{Profile}
use Rattle.aa_model.specs.declared.label.Label.{Label}
use Rattle.aa_model.specs.declared.label.Label.TheVariants.{Unconfined, Confined}
use Rattle.aa_model.specs.declared.request.Request.{Request}
use Rattle.aa_model.specs.declared.request.Request.TheVariants.{File, Link, Exec, Cap, Net, Change, Reload}
use Rattle.aa_compile.specs.Labels.{profile_in}
use Rattle.aa_compile.specs.FileRules.{file_verdict, chosen, ways_by, applies_by, some_match, says_how, any_sort, is_nil, way_of}
use Rattle.aa_compile.specs.Patterns.{is_literal}
use Rattle.aa_compile.specs.declared.transition.Transition.{Transition}
use Rattle.aa_compile.specs.declared.transition.Transition.TheVariants.{Denied, Nowhere}
use Rattle.aa_compile.specs.Transitions.{leads_by, transition}
use Rattle.aa_mediate.specs.Bits.{exec_bits}
use Rattle.aa_mediate.specs.Decided.{blocked}
use Rattle.aa_mediate.specs.Reply.{label_after, exec_reply, reply_at, reply_by, reply}
use Rattle.aa_representatives.specs.Askable.{IsExec}
use Rattle.aa_representatives.specs.Representatives.{AreRepresentatives}
use Rattle.aa_auto.specs.Tables.{ListsMatching}
use Rattle.aa_regions.specs.declared.regions.Region.{Region}
use Rattle.aa_regions.specs.Regions.{IsAsked, ArePathRegions}
use Rattle.aa_regions.specs.Automata.{ArePathRegionsWithin}
use Rattle.aa_unclean_paths.specs.Told.{TellsUnclean}
use Rattle.aa_unclean_paths.specs.Deciding.{is_unclean}
use Rattle.aa_unclean_paths.proofs.Decided.{unclean_then, then_unclean}
use Rattle.aa_representatives.specs.Alike.{MatchAlike, deciding}
use Rattle.aa_representatives.specs.Representatives.{HasExecs}
use Rattle.aa_representatives.proofs.Standing.{same_list}
use Rattle.aa_representatives.proofs.Replied.{execs_reply_alike}
use Rattle.aa_reachability.specs.Extents.{IsProfileAt}
use Rattle.aa_reachability.specs.Order.{IsNoLater}
use Rattle.aa_reachability.specs.Moves.{label_next, IsLeftOutAs, MatchesAll, LeadAllOf, LeadExecs}
use Rattle.aa_reachability.specs.Single.{HasExecsOfRule}
use Rattle.aa_reachability.proofs.Counting.{in_policy}
use Rattle.aa_reachability.proofs.Elements.{head_in, kept_in, some_in}
use Rattle.aa_reachability.proofs.Keeping.{label_of_either}
use Rattle.aa_reachability.proofs.Ordering.{no_later_same}

-- requests that stand for all of a kind of which none comes before another
pub of_representatives : (ps : List Policy) (l : Label) (Kind : Request → Type 0) (rs : List Request)
    → ((r q : Request) → Kind r → Kind q → IsNoLater q r) → AreRepresentatives ps l Kind rs → LeadAllOf ps l Kind rs
of_representatives ps l Kind rs level stand = record {
  each = stand.each;
  all = λ r kind.
      let q = stand.all r kind in
      inr (q.0, q.1, q.2, level r q.0 kind (stand.each q.0 q.1));
}

-- those to execute the files at a shortest path of each region
module _ (ps : List Policy) (l : Label) (regions : List Region) (are : ArePathRegions (deciding ps l) regions) (rs : List Request)
    (has : (r : Region) → Contains regions r → HasExecs r.witness rs) where
  by_region : (r : Request) → IsExec r
      → (label_next ps l r ≡ l) ⊎ ((q : Request) × Contains rs q × (reply ps l r ≡ reply ps l q) × IsNoLater q r × IsLeftOutAs false q r)
  by_region (Exec x) asked =
      let r = are.all x.path asked in
      let is = are.each r.0 r.1 in
      let alike = same_list (deciding ps l) x.path r.0.witness r.0.numbers r.2 is.lists in
      inr (
        Exec (record { path = r.0.witness; owned = x.owned }),
        has r.0 r.1 x.owned,
        execs_reply_alike ps x.path r.0.witness l alike x.owned,
        inr (refl, is.shortest x.path asked r.2),
        λ counts. refl,
      )
  by_region (File f) asked = absurd asked
  by_region (Link k) asked = absurd asked
  by_region (Cap c) asked = absurd asked
  by_region (Net f s) asked = absurd asked
  by_region (Change name) asked = absurd asked
  by_region (Reload m) asked = absurd asked

  pub regions_lead : ((r : Request) → Contains rs r → IsExec r) → LeadExecs false ps l rs
  regions_lead each = record { each = each; all = by_region }

-- a pattern that tells unclean paths matches two paths alike: the one is clean where the other is
clean_alike : (p : Pattern) → TellsUnclean p → (s u : List ℕ) → IsAsked s → IsAsked u → is_match p.items.items s ≡ is_match p.items.items u
    → is_unclean s ≡ false → is_unclean u ≡ false
clean_alike p tells s u s_asked u_asked alike clean = at (is_unclean u) refl
  where
    at : (b : Bool) → is_unclean u ≡ b → is_unclean u ≡ false
    at false e = e
    at true e =
        let matched : is_match p.items.items s ≡ true = alike ∙ (tells u u_asked).1 (unclean_then u e) in
        absurd (let f : true ≡ false = sym (then_unclean s ((tells s s_asked).0 matched)) ∙ clean in cc)

-- those at a shortest path of each region of these patterns, of one that tells unclean paths, and of one that matches all
module _ (ps : List Policy) (l : Label) (p q : Pattern) (tells : TellsUnclean p) (any : MatchesAll q) (regions : List Region)
    (are : ArePathRegionsWithin (p ∷ deciding ps l) q regions) (rs : List Request) (has : (r : Region) → Contains regions r → HasExecs r.witness rs) where
  by_clean_region : (r : Request) → IsExec r
      → (label_next ps l r ≡ l) ⊎ ((q : Request) × Contains rs q × (reply ps l r ≡ reply ps l q) × IsNoLater q r × IsLeftOutAs true q r)
  by_clean_region (Exec x) asked =
      let r = are.all x.path asked (any x.path asked) in
      let is = are.each r.0 r.1 r.2 in
      let alike = same_list ((p ∷ deciding ps l) ++ q ∷ []) x.path r.0.witness r.0.numbers r.3 is.lists in
      let decided : MatchAlike (deciding ps l) x.path r.0.witness =
      (λ o c. alike o (Contains-append_left (p ∷ deciding ps l) (q ∷ []) o (Contains-append_right (p ∷ []) (deciding ps l) o c))) in
      inr (
        Exec (record { path = r.0.witness; owned = x.owned }),
        has r.0 r.1 x.owned,
        execs_reply_alike ps x.path r.0.witness l decided x.owned,
        inr (refl, is.shortest x.path asked r.3),
        clean_alike p tells x.path r.0.witness asked is.asked
            (alike p (Contains-append_left (p ∷ deciding ps l) (q ∷ []) p (head_in p (deciding ps l)))),
      )
  by_clean_region (File f) asked = absurd asked
  by_clean_region (Link k) asked = absurd asked
  by_clean_region (Cap c) asked = absurd asked
  by_clean_region (Net f s) asked = absurd asked
  by_clean_region (Change name) asked = absurd asked
  by_clean_region (Reload m) asked = absurd asked

  pub clean_regions_lead : ((r : Request) → Contains rs r → IsExec r) → LeadExecs true ps l rs
  clean_regions_lead each = record { each = each; all = by_clean_region }

-- a rule says how, and one of its patterns matches the path
record Names (rules : List FileRule) (path : List ℕ) : Type 0 where
  rule : FileRule
  within : Contains rules rule
  how : says_how rule ≡ true
  pattern : Pattern
  among : Contains rule.patterns pattern
  match : is_match pattern.items.items path ≡ true

way_names : (sort : Pattern → Bool) (rules : List FileRule) (path : List ℕ) (owned : Bool) (r : FileRule) → Contains (ways_by sort rules path owned) r
    → Names rules path
way_names sort rules path owned r c =
    let kept = kept_in (λ (x : FileRule). says_how x && applies_by sort path owned x) rules r c in
    let says = and_parts (says_how r) (applies_by sort path owned r) kept.1 in
    let applied = and_parts (owned || not r.owner) (some_match sort path r.patterns) says.1 in
    let found = some_in (λ (p : Pattern). sort p && is_match p.items.items path) r.patterns applied.1 in
    record {
      rule = r;
      within = kept.0;
      how = says.0;
      pattern = found.0;
      among = found.1;
      match = (and_parts (sort found.0) (is_match found.0.items.items path) found.2).1;
    }

chosen_names : (rules : List FileRule) (path : List ℕ) (owned : Bool) (r : FileRule) → Contains (chosen rules path owned) r → Names rules path
chosen_names rules path owned r c = at (is_nil (ways_by is_literal rules path owned)) c
  where
    at : (b : Bool) → Contains (cond b (ways_by any_sort rules path owned) (ways_by is_literal rules path owned)) r → Names rules path
    at true c = way_names any_sort rules path owned r c
    at false c = way_names is_literal rules path owned r c

no_way : (rules : List FileRule) → (way_of rules ≡ None) ⊎ ((r : FileRule) × Contains rules r)
no_way [] = inl refl
no_way (r ∷ rules) = inr (r, head_in r rules)

module _ (ps : List Policy) (k n : ℕ) (p : Profile) (at : profile_in ps k n ≡ Some p) where
  exec_label : (policy : Policy) → slice_get ps k ≡ Some policy → slice_get policy.profiles n ≡ Some p → (r : RequestedExec)
      → label_next ps (Confined k n) (Exec r) ≡ (exec_reply k policy.profiles n p r).label
  unfolding reply
  exec_label policy there here r =
      ap (λ (o : Option Policy). (reply_by ps (Confined k n) o (Exec r)).label) there
      ∙ ap (λ (o : Option Profile). (reply_at ps k policy.profiles n o (Exec r)).label) here

  nowhere : (profiles : List Profile) (path : List ℕ) (b : Bool) (o : Option Way) → o ≡ None
      → label_after k n (cond b Denied (option_map_or (leads_by profiles n p path) o Nowhere)) ≡ Confined k n
  nowhere profiles path true o e = refl
  nowhere profiles path false None e = refl
  nowhere profiles path false (Some w) e = absurd (let f : Some w ≡ None = e in cc)

  -- no rule says how it is executed
  stays : (r : RequestedExec) → way_of (chosen p.files r.path r.owned) ≡ None → label_next ps (Confined k n) (Exec r) ≡ Confined k n
  stays r none =
      let there = in_policy (slice_get ps k) n p at in
      let profiles = there.0.profiles in
      exec_label there.0 there.1 there.2 r
      ∙ label_of_either (blocked p (exec_bits p.files r (transition profiles n p r.path r.owned)) == 0) _ _ (Confined k n)
      (nowhere profiles r.path (has_exec (file_verdict p.files r.path r.owned).deny) (way_of (chosen p.files r.path r.owned)) none) refl

  module _ (clean : Bool) (rs : List Request) (each : (r : Request) → Contains rs r → IsExec r)
      (has : (r : FileRule) → Contains p.files r → HasExecsOfRule rs r) where
    leads : (r : Request) → IsExec r
        → (label_next ps (Confined k n) r ≡ Confined k n)
        ⊎ ((q : Request) × Contains rs q × (reply ps (Confined k n) r ≡ reply ps (Confined k n) q) × IsNoLater q r × IsLeftOutAs clean q r)
    leads (Exec r) asked =
        ⊎_elim
        (λ (none : way_of (chosen p.files r.path r.owned) ≡ None). inl (stays r none))
        (λ (some : (x : FileRule) × Contains (chosen p.files r.path r.owned) x).
        let it = chosen_names p.files r.path r.owned some.0 some.1 in
        inr (Exec r, has it.rule it.within it.how it.pattern it.among r.path it.match asked r.owned, refl, no_later_same (Exec r), λ counts. counts))
        (no_way (chosen p.files r.path r.owned))
    leads (File r) asked = absurd asked
    leads (Link r) asked = absurd asked
    leads (Cap c) asked = absurd asked
    leads (Net f s) asked = absurd asked
    leads (Change name) asked = absurd asked
    leads (Reload m) asked = absurd asked

    execs_lead : LeadExecs clean ps (Confined k n) rs
    execs_lead = record { each = each; all = leads }

pub execs_lead_at : (ps : List Policy) (l : Label) (p : Profile) → IsProfileAt ps l p → (rs : List Request)
    → ((r : Request) → Contains rs r → IsExec r) → ((r : FileRule) → Contains p.files r → HasExecsOfRule rs r)
    → (clean : Bool) → LeadExecs clean ps l rs
execs_lead_at ps (Confined k n) p at rs each has clean = execs_lead ps k n p at clean rs each has
execs_lead_at ps (Unconfined k) p at rs each has clean = absurd at

-- so where there are such
pub execs_lead_some : (ps : List Policy) (l : Label) (p : Profile) → IsProfileAt ps l p → (o : Option (Vec Request Global))
    → IfSome o (λ rs. (r : Request) → Contains rs.items r → IsExec r) → IfSome o (λ rs. (r : FileRule) → Contains p.files r → HasExecsOfRule rs.items r)
    → IfSome o (λ rs. (clean : Bool) → LeadExecs clean ps l rs.items)
execs_lead_some ps l p at None each has = tt
execs_lead_some ps l p at (Some rs) each has = execs_lead_at ps l p at rs.items each has
