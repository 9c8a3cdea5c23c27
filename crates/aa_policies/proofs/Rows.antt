-- What words spell, and text after text.
use Rattle.std.proofs.Common.{◌≡◌, ◌⊎◌, true, ℕ, ◌+◌, ◌<◌, ◌≤◌, List, [], ◌∷◌, ◌++◌, length, take, drop, get_or, inl, inr, Result, Ok, Err, ap, sym, subst, ◌∙◌, arith}
use Rattle.std.proofs.lemmas.List.{take_more, drop_more, take-append-drop, take_all, length-take}
use Rattle.std.specs.Prelude.{◌≢◌, IfOk, IfErr}
use Rattle.aa_base.specs.declared.fault.Spot.{Spot}
use Rattle.aa_base.specs.declared.fault.PolicyFault.{PolicyFault}
use Rattle.aa_base.specs.declared.fault.PolicyKind.TheVariants.{NoMemory, Unsupported, UndefinedVariable, VariableTwice, DuplicateProfile, TooLarge}
use Rattle.aa_base.specs.Kinds.{IsRefusal, no_memory}
use Rattle.aa_words.specs.declared.word.Word.{Word}
use Rattle.aa_words.specs.Splits.{WordData, words_data, Splits}
use Rattle.aa_policy.specs.Preamble.{IsTwice, IsUndefined, IsRefusedWith}
use Rattle.aa_policy.specs.Faults.{IsParseRefusal, is_path_only}
use Rattle.aa_policy.specs.Refusals.{IsStop, IsFault, is_word_only}
use Rattle.aa_policy.specs.Spelling.{Spells, IsPathFault, IsDuplicate, IsOverLimits, text_start}
use Rattle.aa_model.specs.declared.policy.Policy.{Policy}
use Rattle.aa_policies.specs.declared.refused.RefusedPolicy.{RefusedPolicy}
use Rattle.aa_policies.specs.Policies.{Source, IsSpelledBy, IsPolicyOf, ArePoliciesOf, end_of, IsFaultOfWords, IsFaultOfText, IsFirstRefused, CanFollow, IsRefusedBy, OfText, OfWords}

-- ---- what the words of a text spell

pub spelled_by : (sources : List Source) (text : List ℕ) (words : List WordData) (r : Result Policy PolicyFault) → Splits sources text words
    → IfOk r (λ p. Spells words p) → IfOk r (λ p. IsSpelledBy sources text p)
spelled_by sources text words (Ok p) split spelled = record { words = words; split = split; spelled = spelled }
spelled_by sources text words (Err e) split spelled = tt

-- a fault that isn't want of memory is the one that words are refused with
pub exactly : (e fault : PolicyFault) → e.kind ≢ NoMemory → (e ≡ no_memory) ⊎ (e ≡ fault) → e ≡ fault
exactly e fault other (inl memory) = absurd (other (ap (λ (f : PolicyFault). f.kind) memory))
exactly e fault other (inr same) = same

pub fault_of_words : (sources : List Source) (text : List ℕ) (words : List Word) (end : Spot) (r : Result Policy PolicyFault) → Splits sources text (words_data words) → end ≡ end_of text
    → (IsRefusal r → (p : Policy) → Spells (words_data words) p → ⊥)
    → IfErr r (λ e. e.kind ≡ VariableTwice → IsTwice (words_data words) e.at)
    → IfErr r (λ e. e.kind ≡ UndefinedVariable → IsUndefined (words_data words) e.at ⊎ IsPathFault (words_data words) e)
    → IfErr r (λ e. is_path_only e.kind ≡ true → IsPathFault (words_data words) e)
    → IfErr r (λ e. e.kind ≡ DuplicateProfile → IsDuplicate (words_data words) e.at)
    → IfErr r (λ e. e.kind ≡ TooLarge → IsPathFault (words_data words) e ⊎ ((e.at ≡ text_start) × IsOverLimits (words_data words)))
    → IfErr r (λ e. is_word_only e.kind ≡ true → IsStop words end e.at)
    → IfErr r (λ e. e.kind ≡ Unsupported → IsStop words end e.at ⊎ IsPathFault (words_data words) e)
    → IfErr r IsParseRefusal
    → ((fault : PolicyFault) → IsFault (words_data words) fault → IsRefusedWith fault r)
    → IfErr r (λ e. e.kind ≢ NoMemory → (limit : ℕ) → IsFaultOfText sources limit text e)
fault_of_words sources text words end (Ok p) split ends none twice undefined at_path duplicate too_large unwritten unsupported kinds exact = tt
fault_of_words sources text words end (Err e) split ends none twice undefined at_path duplicate too_large unwritten unsupported kinds exact =
    λ other limit. OfWords words split (subst (λ (at : Spot). IsFaultOfWords words at e) ends (record {
      none = none other;
      twice = twice;
      undefined = undefined;
      at_path = at_path;
      duplicate = duplicate;
      too_large = too_large;
      unwritten = unwritten;
      unsupported = unsupported;
      kind = kinds;
      exact = λ fault is. exactly e fault other (exact fault is);
    }))

-- ---- text after text

are_more : (sources : List Source) (limit : ℕ) (texts : List (List ℕ)) (policies : List Policy) (text : List ℕ) (policy : Policy)
    → ArePoliciesOf sources limit texts policies → IsPolicyOf sources limit text policy → ArePoliciesOf sources limit (texts ++ text ∷ []) (policies ++ policy ∷ [])
are_more sources limit [] [] text policy are is = (is, tt)
are_more sources limit (t ∷ ts) (p ∷ ps) text policy are is = (are.0, are_more sources limit ts ps text policy are.1 is)
are_more sources limit [] (p ∷ ps) text policy are is = absurd are
are_more sources limit (t ∷ ts) [] text policy are is = absurd are

pub more : (sources : List Source) (limit : ℕ) (texts : List (List ℕ)) (i : ℕ) (policies after : List Policy) (text : List ℕ) (policy : Policy)
    → i < length texts → text ≡ get_or texts i text → IsPolicyOf sources limit text policy → after ≡ policies ++ policy ∷ []
    → ArePoliciesOf sources limit (take i texts) policies → ArePoliciesOf sources limit (take (i + 1) texts) after
more sources limit texts i policies after text policy lt item is after-is are =
    rw (take_more texts i text lt, ← item, after-is) (are_more sources limit (take i texts) policies text policy are is)

pub all : (sources : List Source) (limit : ℕ) (texts : List (List ℕ)) (i : ℕ) (policies : List Policy) → length texts ≤ i
    → ArePoliciesOf sources limit (take i texts) policies → ArePoliciesOf sources limit texts policies
all sources limit texts i policies le are = subst (λ (ts : List (List ℕ)). ArePoliciesOf sources limit ts policies) (take_all i texts le) are

pub refused_at : (sources : List Source) (limit : ℕ) (texts : List (List ℕ)) (i : ℕ) (policies : List Policy) (text : List ℕ) (r : RefusedPolicy)
    → i < length texts → text ≡ get_or texts i text → ArePoliciesOf sources limit (take i texts) policies → (r.policy ≡ i) × IsFaultOfText sources limit text r.fault → IsFirstRefused sources limit texts r
refused_at sources limit texts i policies text r lt item are here = record {
  before = take i texts;
  text = text;
  behind = drop (i + 1) texts;
  are = sym (take-append-drop i texts) ∙ ap (λ (x : List (List ℕ)). take i texts ++ x) (drop_more texts i text lt ∙ ap (λ (t : List ℕ). t ∷ drop (i + 1) texts) (sym item));
  number = here.0 ∙ sym (omega (arith, length-take i texts));
  policies = policies;
  compile = are;
  fault = here.1;
}

-- where the sources are handed in, the texts are refused as the first that is
pub refused_for : {A : Type 0} (sources others : List Source) (limit : ℕ) (texts : List (List ℕ)) (r : Result A RefusedPolicy) → others ≡ sources → CanFollow [] sources
    → IfErr r (λ e. e.fault.kind ≢ NoMemory → IsFirstRefused others limit texts e) → IfErr r (λ e. e.fault.kind ≢ NoMemory → IsRefusedBy sources limit texts e)
refused_for sources others limit texts (Ok x) same fit h = tt
refused_for sources others limit texts (Err e) same fit h = λ other. OfText fit (subst (λ (s : List Source). IsFirstRefused s limit texts e) same (h other))

-- a refusal that is handed on
pub handed_on : {T : Type 0} (r : Result T RefusedPolicy) (e f : RefusedPolicy) (P : RefusedPolicy → Type 0) → r ≡ Err e → e ≡ f → P f → IfErr r P
handed_on {T} r e f P eq same h = subst (λ (x : Result T RefusedPolicy). IfErr x P) (sym eq) (subst P (sym same) h)
