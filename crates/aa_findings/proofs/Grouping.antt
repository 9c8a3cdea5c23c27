-- The attachments of one profile more.
use Rattle.std.proofs.Common.{◌≡◌, ℕ, ◌+◌, ◌<◌, ◌≤◌, Option, List, [], ◌∷◌, ◌++◌, length, take, get_or, map, refl, ap, ◌∙◌}
use Rattle.std.specs.Option.{option_map_or}
use Rattle.std.proofs.lemmas.Option.{slice_get_past}
use Rattle.std.proofs.lemmas.List.{take_more, map-append, append-nil}
use Rattle.std.proofs.lemmas.Grind.{flat_map-append}
use Rattle.aa_pattern.specs.declared.pattern.Pattern.{Pattern}
use Rattle.aa_model.specs.declared.policy.Profile.{Profile}
use Rattle.aa_compile.specs.Attached.{at_number, attachment_by, attachment_of, attachments_at, attachments_by, pattern_of}
use Rattle.aa_findings.specs.Attached.{patterns_at, kept_at}

pattern_parts : (n : ℕ) (ps : List Pattern) → map pattern_of (map (at_number n) ps) ≡ ps
pattern_parts n [] = refl
pattern_parts n (p ∷ ps) = ap (λ l. p ∷ l) (pattern_parts n ps)

kept_parts : (n : ℕ) (ps : List Pattern) → map attachment_of (map (at_number n) ps) ≡ map (attachment_by n) ps
kept_parts n [] = refl
kept_parts n (p ∷ ps) = ap (λ l. attachment_by n p ∷ l) (kept_parts n ps)

pub none_past : (profiles : List Profile) (n : ℕ) → length profiles ≤ n → attachments_at profiles n ≡ []
none_past profiles n le = ap (λ (o : Option Profile). option_map_or (λ (p : Profile). p.attachments) o []) (slice_get_past profiles n le)

module _ (profiles : List Profile) (numbers : List ℕ) (i : ℕ) (lt : i < length numbers) where
  abbrev n : ℕ
  n = get_or numbers i 0

  abbrev own : List (ℕ × Pattern)
  own = map (at_number n) (attachments_at profiles n)

  more : attachments_by profiles (take (i + 1) numbers) ≡ attachments_by profiles (take i numbers) ++ own
  more =
      ap (attachments_by profiles) (take_more numbers i 0 lt)
      ∙ flat_map-append (λ k. map (at_number k) (attachments_at profiles k)) (take i numbers) (n ∷ [])
      ∙ ap (λ l. attachments_by profiles (take i numbers) ++ l) (append-nil own)

  pub patterns_more : patterns_at profiles (take (i + 1) numbers) ≡ patterns_at profiles (take i numbers) ++ attachments_at profiles n
  patterns_more = ap (map pattern_of) more ∙ map-append pattern_of (attachments_by profiles (take i numbers)) own ∙ ap (λ l. patterns_at profiles (take i numbers) ++ l) (pattern_parts n (attachments_at profiles n))

  pub kept_more : kept_at profiles (take (i + 1) numbers) ≡ kept_at profiles (take i numbers) ++ map (attachment_by n) (attachments_at profiles n)
  kept_more = ap (map attachment_of) more ∙ map-append attachment_of (attachments_by profiles (take i numbers)) own ∙ ap (λ l. kept_at profiles (take i numbers) ++ l) (kept_parts n (attachments_at profiles n))
