-- Findings, one more after another.
use Rattle.std.proofs.Common.{◌≡◌, ℕ, ◌+◌, ◌<◌, List, [], ◌∷◌, ◌++◌, length, take, drop, get_or, refl, sym, ap, ◌∙◌}
use Rattle.aa_model.specs.declared.policy.Policy.{Policy}
use Rattle.aa_model.specs.declared.label.Label.{Label}
use Rattle.std.proofs.lemmas.List.{take_more, drop_more}
use Rattle.aa_command.specs.declared.decided.Decided.{Decided}
use Rattle.aa_differences.specs.declared.at_labels.Difference.{Difference}
use Rattle.aa_diff.specs.declared.finding.Finding.{Finding}
use Rattle.aa_diff.specs.Gathered.{gathered, gathered_next}
use Rattle.aa_diff.specs.Joined.{joined, joined_all}
use Rattle.aa_diff.specs.declared.rules.OwnRules.{OwnRules}
use Rattle.aa_diff.specs.Rules.{own_at, AreOwn}

-- a difference is taken from those that are left, and put behind those before
pub gathered_step : (d e : Decided) (xs : List Difference) (n : ℕ) (x : Difference) (fs : List Finding) → n < length xs → x ≡ get_or xs n x
    → gathered d e (take (n + 1) xs) (drop (n + 1) xs) (gathered_next d e (take n xs) x fs) ≡ gathered d e (take n xs) (drop n xs) fs
gathered_step d e xs n x fs lt item =
    ap (λ (before : List Difference). gathered d e before (drop (n + 1) xs) (gathered_next d e (take n xs) x fs)) (take_more xs n x lt ∙ ap (λ (y : Difference). take n xs ++ y ∷ []) (sym item))
    ∙ sym (ap (λ (rest : List Difference). gathered d e (take n xs) rest fs) (drop_more xs n x lt ∙ ap (λ (y : Difference). y ∷ drop (n + 1) xs) (sym item)))

-- so is a finding
pub joined_step : (gs : List Finding) (n : ℕ) (g : Finding) (fs : List Finding) → n < length gs → g ≡ get_or gs n g → joined_all (joined fs g) (drop (n + 1) gs) ≡ joined_all fs (drop n gs)
joined_step gs n g fs lt item = sym (ap (joined_all fs) (drop_more gs n g lt ∙ ap (λ (y : Finding). y ∷ drop (n + 1) gs) (sym item)))

-- what is known of two labels is known of labels that are these
pub own_same : (ps qs : List Policy) (l m : Label) (own : OwnRules) → AreOwn ps qs own.from own.to own → own.from ≡ l → own.to ≡ m → AreOwn ps qs l m own
own_same ps qs l m own a f t = record {
  from = f;
  to = t;
  old = a.old ∙ (ap (λ (k : Label). own_at ps qs k own.to) f ∙ ap (own_at ps qs l) t);
  new = a.new ∙ (ap (λ (k : Label). own_at qs ps k own.from) t ∙ ap (own_at qs ps m) f);
}

pub own_itself : (ps qs : List Policy) (l m : Label) (own : OwnRules) → AreOwn ps qs l m own → AreOwn ps qs own.from own.to own
own_itself ps qs l m own a = record {
  from = refl;
  to = refl;
  old = a.old ∙ sym (ap (λ (k : Label). own_at ps qs k own.to) a.from ∙ ap (own_at ps qs l) a.to);
  new = a.new ∙ sym (ap (λ (k : Label). own_at qs ps k own.from) a.to ∙ ap (own_at qs ps m) a.from);
}
