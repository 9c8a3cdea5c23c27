use Rattle.std.proofs.Common.{◌≡◌, ℕ, List, [], ◌∷◌, ◌||◌, map, refl, ap, subst}
use Rattle.aa_passed_over.specs.declared.listed.ListedRule.{ListedRule}
use Rattle.aa_passed_over.specs.Listed.{listed}
use Rattle.aa_passed_over.specs.Apart.{text_of, is_among, is_seen, AreSeen, Seen}
use Rattle.aa_passed_over.proofs.Keeping.{one_kept, kept_end, first_is}
use Rattle.aa_passed_over.proofs.apart.texts_of.Goals as goal

pub loop-rest-init : goal.loop-rest-init
loop-rest-init c = record {
  texts = [];
  kept = λ q. ap (λ (seen : Seen). is_seen seen q) c.new-seen.ensures.empty;
  all = λ q. refl;
}

pub loop-rest-preserved : goal.loop-rest-preserved
loop-rest-preserved c =
    let h = c.loop-rest.invariant in
    let whole = map text_of (map listed c.args.rules.now) in
    let text = c.rule-item.result.text.items in record {
      texts = text ∷ h.texts;
      kept = subst (λ (t : List ℕ). AreSeen c.keep.new.seen.entries (t ∷ h.texts)) c.as_slice.ensures.value (c.in_ok-keep.ensures h.texts h.kept);
      all = one_kept h.texts _ whole text
          (subst (λ (l : List ListedRule). (q : List ℕ) → (is_among h.texts q || is_among (map text_of (map listed l)) q) ≡ is_among whole q)
          (first_is c.loop-rest.rest.now c.rule-item.result c.in-len1-up.len_at_least c.rule-item.is) h.all);
    }

pub returns : goal.returns
returns c =
    let h = c.loop-rest.invariant in
    kept_end c.loop-rest.seen.entries h.texts (map text_of (map listed c.args.rules.now)) c.loop-rest.rest.now c.in_default.len_below h.kept h.all
