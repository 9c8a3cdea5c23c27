use Rattle.std.proofs.Common.{inr, ◌∙◌, ap, sym, List, Bor, rules, refl}
use Rattle.std.specs.Prelude.{ℕ}
use Rattle.std.specs.List.{list_any}
use Rattle.std.specs.Str.{bytes_eq}
use Rattle.aa_policy.proofs.Distinct.{distinct_none, absent, present, known_in, known_more, names_more, distinct_more, repeated_at}
use Rattle.aa_policy.proofs.limits.check_names.Goals as goal

pub loop-profile-init : goal.loop-profile-init
loop-profile-init c = record {
  distinct = distinct_none;
  known = λ q. ap (λ (ks : List (Bor (List ℕ))). list_any (λ k. bytes_eq q k.now) ks) c.new-names.ensures.empty;
}

pub returns-then-not-added-clause-repeated : goal.returns-then-not-added-clause-repeated
returns-then-not-added-clause-repeated c = inr (
  refl,
  repeated_at c.args.profiles.now c.loop-profile.profile-index c.profile-item.result c.as_slice.result.now c.loop-profile-test.true c.profile-item.is c.as_slice.ensures
      (known_in _ _ c.as_slice.result.now c.loop-profile.invariant.known ∙ present _ c.in_ok-added.added c.in_ok-added.ensures.added (search rules)) c.loop-profile.invariant.distinct,
)

pub loop-profile-preserved : goal.loop-profile-preserved
loop-profile-preserved c =
    let more = names_more c.args.profiles.now c.loop-profile.profile-index c.profile-item.result c.as_slice.result.now c.loop-profile-test.true c.profile-item.is c.as_slice.ensures in
    record {
      distinct = rw more (distinct_more _ c.as_slice.result.now c.loop-profile.invariant.distinct
          (known_in _ _ c.as_slice.result.now c.loop-profile.invariant.known ∙ absent _ c.in_ok-added.added c.in_ok-added.ensures.added (search rules)));
      known = λ q. known_more c.loop-profile.names.keys c.insert.new.self.keys _ c.as_slice.result c.in_ok-added.ensures.updates.0 c.loop-profile.invariant.known q ∙ ap (list_any (bytes_eq q)) (sym more);
    }
