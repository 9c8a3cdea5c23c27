-- All that a verdict tells, by the policies, the label of the task and its request.
-- Source: own.
use Rattle.std.specs.Prelude.{ℕ, List, [], ◌∷◌, map, ◌==◌, ◌&&◌, ◌||◌, Bool, true, false, not, codes, Option, Some, None, option_map, if◌then◌else◌}
use Rattle.std.specs.List.{list_any}
use Rattle.aa_model.specs.declared.policy.Policy.{Policy}
use Rattle.aa_model.specs.declared.label.Label.{Label}
use Rattle.aa_model.specs.declared.label.Label.TheVariants.{Unconfined, Confined}
use Rattle.aa_model.specs.declared.request.Request.{Request}
use Rattle.aa_model.specs.declared.request.Request.TheVariants as asks
use Rattle.aa_model.specs.declared.answer.Answer.{Answer}
use Rattle.aa_compile.specs.Labels.{label_name}
use Rattle.aa_mediate.specs.Reply.{reply}
use Rattle.aa_notation.specs.Kinds.{word_text}
use Rattle.aa_command.specs.declared.decided.Decided.{Decided}
use Rattle.aa_ask.specs.declared.verdict.Verdict.{Verdict}
use Rattle.aa_ask.specs.Verdicts.{is_by_complain}
use Rattle.aa_ask.specs.Named.{Named, Lacked, named, lacked, named_for, lacked_for}

-- a verdict, without where it lies in memory
pub record Told : Type 0 where
  pub word : List ℕ
  pub asker : Option (List ℕ)
  pub granted : Bool
  pub label : Option (List ℕ)
  pub scrub : Bool
  pub complain : Bool
  pub deciders : List Named
  pub lacking : List Lacked
  pub unfound : Option (List ℕ)

-- a verdict without where it lies in memory
abbrev pub told : Verdict → Told
told v = record {
  word = v.word.items;
  asker = option_map (λ name. name.items) v.asker;
  granted = v.granted;
  label = option_map (λ name. name.items) v.label;
  scrub = v.scrub;
  complain = v.complain;
  deciders = map named v.deciders.items;
  lacking = map lacked v.lacking.items;
  unfound = option_map (λ what. what.now) v.unfound;
}

-- both are one label
abbrev pub is_same : Label → Label → Bool
is_same (Unconfined j) (Unconfined k) = j == k
is_same (Confined j m) (Confined k n) = j == k && m == n
is_same (Unconfined j) (Confined k n) = false
is_same (Confined j m) (Unconfined k) = false

-- a task with that label is confined
abbrev pub is_confined : Label → Bool
is_confined (Unconfined k) = false
is_confined (Confined k n) = true

-- how the label after is called, where it is another than before
abbrev pub label_told : List Policy → Label → Label → Option (List ℕ)
label_told policies before after = if is_same before after then None else Some (label_name policies after)

-- the full name of the profile that asks, if the task is confined
abbrev pub asker_of : List Policy → Label → Option (List ℕ)
asker_of policies (Unconfined k) = None
asker_of policies (Confined k n) = Some (label_name policies (Confined k n))

-- the list is empty
abbrev pub is_nil : {X : Type 0} → List X → Bool
is_nil [] = true
is_nil (x ∷ xs) = false

-- all that is asked is allowed, and no rule denies it
abbrev pub is_allowed : List Named → List Lacked → Bool
is_allowed names lacks = is_nil lacks && not (list_any (λ (n : Named). n.denies) names)

-- what can be missing where all that is asked is allowed
abbrev pub missing : Request → Option (List ℕ)
missing (asks.Exec e) = Some (codes "no profile is found to go on in")
missing (asks.Change name) = Some (codes "no profile has this name")
missing (asks.Link l) = Some (codes "the target isn't executed as the link is")
missing _ = None

-- what is missing where all that is asked is allowed, and yet it is refused
abbrev pub unfound : Request → Bool → List Named → List Lacked → Option (List ℕ)
unfound request granted names lacks = if granted || not (is_allowed names lacks) then None else missing request

-- what is told of an answer
unfoldable pub told_by : List ℕ → Option (List ℕ) → Answer → Option (List ℕ) → List Named → List Lacked → Option (List ℕ) → Told
told_by word asker a after names lacks what = record {
  word = word;
  asker = asker;
  granted = a.granted;
  label = after;
  scrub = a.scrub;
  complain = is_by_complain a;
  deciders = names;
  lacking = lacks;
  unfound = what;
}

-- the same of an answer to a request of a task with that label
abbrev pub told_of : Decided → Label → Request → Answer → Told
told_of d label request a =
    told_by (word_text request) (asker_of d.policies.now label) a (label_told d.policies.now label a.label) (named_for d label request) (lacked_for d label request)
    (unfound request a.granted (named_for d label request) (lacked_for d label request))

-- the verdict on a request of a task with that label
unfoldable pub verdict_on : Decided → Label → Request → Told
verdict_on d label request = told_of d label request (reply d.policies.now label request)
