-- What words are answered with says all that is promised of it.
use Rattle.std.proofs.Common.{◌≡◌, List, Bool, true, false, refl, sym, ap, ◌∙◌, ◌⊎◌, inl, inr, rules}
use Rattle.std.specs.Prelude.{◌≢◌, Result, Ok, Err, IfOk, IfErr}
use Rattle.aa_base.specs.declared.fault.Spot.{Spot}
use Rattle.aa_base.specs.declared.fault.PolicyFault.{PolicyFault}
use Rattle.aa_base.specs.declared.fault.PolicyKind.{PolicyKind}
use Rattle.aa_base.specs.declared.fault.PolicyKind.TheVariants.{NoMemory, Syntax, Unsupported, UnknownWord, BadMode, WriteWithAppend, BadPattern}
use Rattle.aa_base.specs.declared.fault.PolicyKind.TheVariants.{UndefinedVariable, VariableTwice, VariableCircle, TooManyExpansions, RelativePath}
use Rattle.aa_base.specs.declared.fault.PolicyKind.TheVariants.{DuplicateProfile, TooLarge}
use Rattle.aa_base.specs.Kinds.{IsRefusal, no_memory, at_start}
use Rattle.aa_words.specs.declared.word.Word.{Word}
use Rattle.aa_words.specs.Splits.{WordData, words_data}
use Rattle.aa_glob.specs.Variables.{Variable}
use Rattle.aa_policy.specs.Preamble.{IsMisnamed, IsTwice, IsUndefined, IsRefusedWith, IsPreambleRefusal, is_preamble_fault, misnamed}
use Rattle.aa_policy.proofs.Refusals.{unless_memory, true_false}
use Rattle.aa_rules.specs.Faults.{IsPlaced}
use Rattle.aa_model.specs.declared.policy.Policy.{Policy}
use Rattle.aa_model.specs.declared.policy.Profile.{Profile}
use Rattle.aa_policy.specs.Bodies.{ProfileData, IsPolicy}
use Rattle.aa_policy.specs.Faults.{IsParseRefusal, IsPathRefusal, is_parse_fault, is_path_fault, is_path_only}
use Rattle.aa_policy.specs.Expansion.{IsFirstRefused}
use Rattle.aa_policy.specs.Meant.{AreMeant, IsMeaningless, OfPath, OfName, OfLimit}
use Rattle.aa_policy.specs.Refusals.{IsStop, IsFault, IsUnwritten, is_word_only}
use Rattle.aa_policy.specs.Spelling.{Spells, IsPathFault, IsDuplicate, IsOverLimits, IsRepeated, MeansProfiles, passed_over_from, paths_of, text_start}
use Rattle.aa_policy.proofs.Exact.{IsNotMisnamed, exact_words, exact_paths, exact_names, exact_limits, duplicate, stop_at, unsupported, word_only}
use Rattle.aa_policy.proofs.Spelled.{no_policy, no_paths, no_names, no_limits}

-- all that is promised of the answer
pub record Answers (words : List Word) (end : Spot) (r : Result Policy PolicyFault) : Type 0 where
  pub spelled : IfOk r (λ p. Spells (words_data words) p)
  pub refused : IsRefusal r → (p : Policy) → Spells (words_data words) p → ⊥
  pub twice : IfErr r (λ e. e.kind ≡ VariableTwice → IsTwice (words_data words) e.at)
  pub undefined : IfErr r (λ e. e.kind ≡ UndefinedVariable → IsUndefined (words_data words) e.at ⊎ IsPathFault (words_data words) e)
  pub at_path : IfErr r (λ e. is_path_only e.kind ≡ true → IsPathFault (words_data words) e)
  pub duplicate : IfErr r (λ e. e.kind ≡ DuplicateProfile → IsDuplicate (words_data words) e.at)
  pub too_large : IfErr r (λ e. e.kind ≡ TooLarge → IsPathFault (words_data words) e ⊎ ((e.at ≡ text_start) × IsOverLimits (words_data words)))
  pub unwritten : IfErr r (λ e. is_word_only e.kind ≡ true → IsStop words end e.at)
  pub unsupported : IfErr r (λ e. e.kind ≡ Unsupported → IsStop words end e.at ⊎ IsPathFault (words_data words) e)
  pub kinds : IfErr r (λ e. IsParseRefusal e)
  pub exact : (fault : PolicyFault) → IsFault (words_data words) fault → IsRefusedWith fault r

-- ---- kinds

-- a refusal of some kinds is of no other
other_kind : (fits : PolicyKind → Bool) (e : PolicyFault) (kind : PolicyKind) → (e ≡ no_memory) ⊎ (fits e.kind ≡ true) → kind ≢ NoMemory → fits kind ≡ false → e.kind ≡ kind → ⊥
other_kind fits e kind (inl m) n f is = n (sym is ∙ ap (λ (x : PolicyFault). x.kind) m)
other_kind fits e kind (inr h) n f is = true_false (sym h ∙ ap fits is ∙ f)

kinds_apart : (kind : PolicyKind) → is_preamble_fault kind ≡ true → is_path_only kind ≡ true → ⊥
kinds_apart BadPattern h k = true_false (sym h)
kinds_apart VariableCircle h k = true_false (sym h)
kinds_apart TooManyExpansions h k = true_false (sym h)
kinds_apart RelativePath h k = true_false (sym h)
kinds_apart kind h k = true_false (sym k)

preamble_or_path : (e : PolicyFault) → IsPreambleRefusal e → is_path_only e.kind ≡ true → ⊥
preamble_or_path e (inl m) k = true_false (sym k ∙ ap (λ (x : PolicyFault). is_path_only x.kind) m)
preamble_or_path e (inr h) k = kinds_apart e.kind h k

preamble_told : (e : PolicyFault) → IsPreambleRefusal e → IsParseRefusal e
preamble_told e (inl m) = inl m
preamble_told e (inr h) = inr (preamble_kind e.kind h)
  where
    preamble_kind : (kind : PolicyKind) → is_preamble_fault kind ≡ true → is_parse_fault kind ≡ true
    preamble_kind kind h = search (rules, h)

-- ---- words that are written wrong

pub stopped : (words : List Word) (end : Spot) (e : PolicyFault) → (e.kind ≢ NoMemory → IsUnwritten (words_data words)) → IsPreambleRefusal e → IsPlaced words end e
    → (e.kind ≡ VariableTwice → IsTwice (words_data words) e.at) → (e.kind ≡ UndefinedVariable → IsUndefined (words_data words) e.at)
    → ((adds : Bool) (spot : Spot) → IsMisnamed adds (words_data words) spot → (e ≡ no_memory) ⊎ (e ≡ misnamed adds spot)) → Answers words end (Err e)
stopped words end e unwritten cause place twice undefined misnamed = record {
  spelled = tt;
  refused = λ h. no_policy (words_data words) (unwritten h);
  twice = twice;
  undefined = λ k. inl (undefined k);
  at_path = λ k. absurd (preamble_or_path e cause k);
  duplicate = λ k. absurd (other_kind is_preamble_fault e DuplicateProfile cause (λ q. cc) refl k);
  too_large = λ k. absurd (other_kind is_preamble_fault e TooLarge cause (λ q. cc) refl k);
  unwritten = λ k. stop_at words words end e.at refl (unwritten (word_only e.kind k)) (unless_memory _ e place (word_only e.kind k));
  unsupported = λ k. inl (stop_at words words end e.at refl (unwritten (unsupported e.kind k)) (unless_memory _ e place (unsupported e.kind k)));
  kinds = preamble_told e cause;
  exact = λ fault f. exact_words (words_data words) e fault cause unwritten misnamed f;
}

-- ---- words that are written right

abbrev Late : List Variable → List ProfileData → PolicyFault → Type 0
Late vars tree e = (e ≡ no_memory) ⊎ IsMeaningless vars tree e

-- such a refusal is of a kind of paths, or of names
abbrev is_late_fault : PolicyKind → Bool
is_late_fault DuplicateProfile = true
is_late_fault kind = is_path_fault kind

path_is_late : (kind : PolicyKind) → is_path_fault kind ≡ true → is_late_fault kind ≡ true
path_is_late DuplicateProfile h = refl
path_is_late kind h = h

late_kind : (vars : List Variable) (tree : List ProfileData) (e : PolicyFault) → Late vars tree e → (e ≡ no_memory) ⊎ (is_late_fault e.kind ≡ true)
late_kind vars tree e (inl m) = inl m
late_kind vars tree e (inr (OfPath h first)) = inr (path_is_late e.kind h)
late_kind vars tree e (inr (OfName profiles means k repeated)) = inr (ap is_late_fault k)
late_kind vars tree e (inr (OfLimit profiles means distinct over is)) = inr (ap (λ (x : PolicyFault). is_late_fault x.kind) is)

late_told : (e : PolicyFault) → (e ≡ no_memory) ⊎ (is_late_fault e.kind ≡ true) → IsParseRefusal e
late_told e (inl m) = inl m
late_told e (inr h) = inr (told e.kind h)
  where
    told : (kind : PolicyKind) → is_late_fault kind ≡ true → is_parse_fault kind ≡ true
    told kind h = search (rules, h)

word_or_late : (e : PolicyFault) → (e ≡ no_memory) ⊎ (is_late_fault e.kind ≡ true) → is_word_only e.kind ≡ true → ⊥
word_or_late e (inl m) k = true_false (sym k ∙ ap (λ (x : PolicyFault). is_word_only x.kind) m)
word_or_late e (inr h) k = apart e.kind h k
  where
    apart : (kind : PolicyKind) → is_late_fault kind ≡ true → is_word_only kind ≡ true → ⊥
    apart Syntax h k = true_false (sym h)
    apart UnknownWord h k = true_false (sym h)
    apart BadMode h k = true_false (sym h)
    apart WriteWithAppend h k = true_false (sym h)
    apart kind h k = true_false (sym k)

-- what a refusal of a path's kind says
path_of : (ws : List WordData) (vars : List Variable) (tree : List ProfileData) (e : PolicyFault) → IsPolicy ws vars tree → Late vars tree e → is_path_fault e.kind ≡ true
    → IsPathFault ws e ⊎ ((e ≡ at_start TooLarge) × IsOverLimits ws)
path_of ws vars tree e w (inl m) k = absurd (true_false (sym k ∙ ap (λ (x : PolicyFault). is_path_fault x.kind) m))
path_of ws vars tree e w (inr (OfPath h first)) k = inl (record { vars = vars; tree = tree; written = w; first = first })
path_of ws vars tree e w (inr (OfName profiles means is repeated)) k = absurd (true_false (sym k ∙ ap is_path_fault is))
path_of ws vars tree e w (inr (OfLimit profiles means distinct over is)) k =
    inr (is, record { vars = vars; tree = tree; written = w; profiles = profiles; means = means; distinct = distinct; over = over })

-- of another such kind than that of the limits
path_alone : (ws : List WordData) (vars : List Variable) (tree : List ProfileData) (e : PolicyFault) → IsPolicy ws vars tree → Late vars tree e → is_path_fault e.kind ≡ true → e.kind ≢ TooLarge
    → IsPathFault ws e
path_alone ws vars tree e w late k other = elim (path_of ws vars tree e w late k) [ inl path ↦ path | inr over ↦ absurd (other (ap (λ (x : PolicyFault). x.kind) over.0)) ]

path_only : (kind : PolicyKind) → is_path_only kind ≡ true → (is_path_fault kind ≡ true) × (kind ≢ TooLarge)
path_only BadPattern k = (refl, λ q. cc)
path_only VariableCircle k = (refl, λ q. cc)
path_only TooManyExpansions k = (refl, λ q. cc)
path_only RelativePath k = (refl, λ q. cc)
path_only kind k = absurd (true_false (sym k))

at_path_of : (ws : List WordData) (vars : List Variable) (tree : List ProfileData) (e : PolicyFault) → IsPolicy ws vars tree → Late vars tree e → is_path_only e.kind ≡ true → IsPathFault ws e
at_path_of ws vars tree e w late k = let p = path_only e.kind k in path_alone ws vars tree e w late p.0 p.1

too_large_of : (ws : List WordData) (vars : List Variable) (tree : List ProfileData) (e : PolicyFault) → IsPolicy ws vars tree → Late vars tree e → e.kind ≡ TooLarge
    → IsPathFault ws e ⊎ ((e.at ≡ text_start) × IsOverLimits ws)
too_large_of ws vars tree e w late k =
    elim (path_of ws vars tree e w late (ap is_path_fault k)) [ inl path ↦ inl path | inr over ↦ inr (ap (λ (x : PolicyFault). x.at) over.0, over.1) ]

duplicate_of : (ws : List WordData) (vars : List Variable) (tree : List ProfileData) (e : PolicyFault) → IsPolicy ws vars tree → Late vars tree e → e.kind ≡ DuplicateProfile → IsDuplicate ws e.at
duplicate_of ws vars tree e w (inl m) k = absurd (duplicate e.kind k (ap (λ (x : PolicyFault). x.kind) m))
duplicate_of ws vars tree e w (inr (OfPath h first)) k = absurd (true_false (sym h ∙ ap is_path_fault k))
duplicate_of ws vars tree e w (inr (OfName profiles means is repeated)) k = record { vars = vars; tree = tree; written = w; profiles = profiles; means = means; repeated = repeated }
duplicate_of ws vars tree e w (inr (OfLimit profiles means distinct over is)) k = absurd (let q : TooLarge ≡ DuplicateProfile = sym (ap (λ (x : PolicyFault). x.kind) is) ∙ k in cc)

refused_of : (ws : List WordData) (vars : List Variable) (tree : List ProfileData) (e : PolicyFault) → IsPolicy ws vars tree → Late vars tree e → e.kind ≢ NoMemory → (p : Policy) → Spells ws p → ⊥
refused_of ws vars tree e w (inl m) other = absurd (other (ap (λ (x : PolicyFault). x.kind) m))
refused_of ws vars tree e w (inr (OfPath h first)) other = no_paths ws vars tree e w first
refused_of ws vars tree e w (inr (OfName profiles means is repeated)) other = no_names ws vars tree profiles e.at w means repeated
refused_of ws vars tree e w (inr (OfLimit profiles means distinct over is)) other = no_limits ws vars tree profiles w means over

exact_of : (ws : List WordData) (vars : List Variable) (tree : List ProfileData) (e : PolicyFault) → IsPolicy ws vars tree → IsNotMisnamed ws → Late vars tree e
    → (fault : PolicyFault) → IsFault ws fault → (e ≡ no_memory) ⊎ (e ≡ fault)
exact_of ws vars tree e w named (inl m) fault f = inl m
exact_of ws vars tree e w named (inr (OfPath h first)) fault f = exact_paths ws vars tree e fault w named (inr h) (λ other. first) f
exact_of ws vars tree e w named (inr (OfName profiles means is repeated)) fault f = exact_names ws vars tree profiles e fault w named means (inr (is, repeated)) f
exact_of ws vars tree e w named (inr (OfLimit profiles means distinct over is)) fault f = inr (is ∙ (exact_limits ws vars tree profiles fault w named means distinct f).0)

pub meant : (words : List Word) (end : Spot) (vars : List Variable) (tree : List ProfileData) (r : Result Policy PolicyFault) → IsPolicy (words_data words) vars tree → IsNotMisnamed (words_data words)
    → IfOk r (λ p. AreMeant vars tree p.profiles) → IfOk r (λ p. p.passed_over ≡ passed_over_from 0 tree) → IfErr r (λ e. (e ≡ no_memory) ⊎ IsMeaningless vars tree e) → Answers words end r
meant words end vars tree (Ok p) w named means listed late = record {
  spelled = record { vars = vars; tree = tree; written = w; means = means.means; distinct = means.distinct; limits = means.limits; passed_over = listed };
  refused = λ h. absurd h;
  twice = tt;
  undefined = tt;
  at_path = tt;
  duplicate = tt;
  too_large = tt;
  unwritten = tt;
  unsupported = tt;
  kinds = tt;
  exact = λ fault f. (exact_limits (words_data words) vars tree p.profiles fault w named means.means means.distinct f).1 means.limits;
}
meant words end vars tree (Err e) w named means listed late =
    let ws = words_data words in
    let kind = late_kind vars tree e late in
    record {
      spelled = tt;
      refused = refused_of ws vars tree e w late;
      twice = λ k. absurd (other_kind is_late_fault e VariableTwice kind (λ q. cc) refl k);
      undefined = λ k. inr (path_alone ws vars tree e w late (ap is_path_fault k) (λ q. let other : UndefinedVariable ≡ TooLarge = sym k ∙ q in cc));
      at_path = at_path_of ws vars tree e w late;
      duplicate = duplicate_of ws vars tree e w late;
      too_large = too_large_of ws vars tree e w late;
      unwritten = λ k. absurd (word_or_late e kind k);
      unsupported = λ k. inr (path_alone ws vars tree e w late (ap is_path_fault k) (λ q. let other : Unsupported ≡ TooLarge = sym k ∙ q in cc));
      kinds = late_told e kind;
      exact = exact_of ws vars tree e w named late;
    }

-- ---- in the second pass and the third

pub of_path : (vars : List Variable) (tree : List ProfileData) (e : PolicyFault) → IsPathRefusal e → (e.kind ≢ NoMemory → IsFirstRefused vars (paths_of tree) e) → (e ≡ no_memory) ⊎ IsMeaningless vars tree e
of_path vars tree e (inl m) first = inl m
of_path vars tree e (inr h) first = inr (OfPath h (first (λ q. true_false (sym h ∙ ap is_path_fault q))))

pub of_name : (vars : List Variable) (tree : List ProfileData) (profiles : List Profile) (e : PolicyFault) → MeansProfiles vars tree profiles
    → (e ≡ no_memory) ⊎ ((e.kind ≡ DuplicateProfile) × IsRepeated profiles e.at) → (e ≡ no_memory) ⊎ IsMeaningless vars tree e
of_name vars tree profiles e means (inl m) = inl m
of_name vars tree profiles e means (inr r) = inr (OfName profiles means r.0 r.1)
