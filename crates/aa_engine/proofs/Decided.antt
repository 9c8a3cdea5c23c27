-- The bytes of a job decide what a command writes for them.
use Rattle.std.proofs.Common.{◌≡◌, ℕ, List, [], ◌∷◌, Option, Some, sym, subst, ◌∙◌}
use Rattle.std.specs.List.{AllZip}
use Rattle.aa_words.specs.Splits.{WordData}
use Rattle.aa_words.proofs.Once.{reads_once}
use Rattle.aa_model.specs.declared.policy.Policy.{Policy}
use Rattle.aa_policy.specs.Spelling.{Spells}
use Rattle.aa_policy.specs.Sameness.{SamePolicy}
use Rattle.aa_policy.proofs.Spelled.{spells_once}
use Rattle.aa_jobs.specs.declared.job.Job.{Job}
use Rattle.aa_policies.specs.Policies.{Source, IsPolicyOf, ArePoliciesOf, sources_of}
use Rattle.aa_engine.proofs.SameTexts.{run_alike, check_alike}
use Rattle.aa_engine.proofs.Replays.{replay_alike}
use Rattle.aa_engine.specs.Output.{run_text, check_text}
use Rattle.aa_engine.specs.Replay.{replay_text}
use Rattle.aa_engine.specs.Engines.{IsOutput, IsCheckOutput, IsRunOutput, IsReplayOutput, IsDecided}

-- a text is that of one policy, but for where its patterns lie
same_policy : (sources : List Source) (limit : ℕ) (text : List ℕ) (p q : Policy) → IsPolicyOf sources limit text p → IsPolicyOf sources limit text q → SamePolicy p q
same_policy sources limit text p q a b =
    let words : a.spelled.words ≡ b.spelled.words = (reads_once 17 sources _ _ _ a.spelled.words b.spelled.words _ _ a.spelled.split.2 b.spelled.split.2).words in
    spells_once b.spelled.words p q (subst (λ (ws : List WordData). Spells ws p) words a.spelled.spelled) b.spelled.spelled

same_policies : (sources : List Source) (limit : ℕ) (texts : List (List ℕ)) (ps qs : List Policy) → ArePoliciesOf sources limit texts ps → ArePoliciesOf sources limit texts qs → AllZip SamePolicy ps qs
same_policies sources limit [] [] [] a b = tt
same_policies sources limit (text ∷ texts) (p ∷ ps) (q ∷ qs) a b = (same_policy sources limit text p q a.0 b.0, same_policies sources limit texts ps qs a.1 b.1)
same_policies sources limit [] (p ∷ ps) qs a b = absurd a
same_policies sources limit [] [] (q ∷ qs) a b = absurd b
same_policies sources limit (text ∷ texts) [] qs a b = absurd a
same_policies sources limit (text ∷ texts) (p ∷ ps) [] a b = absurd b

-- what is the same for policies that are the same is decided by the bytes
decided : (P : Job → List Policy → List ℕ → Type 0)
    → ((job : Job) (ps qs : List Policy) (text other : List ℕ) → AllZip SamePolicy ps qs → P job ps text → P job qs other → text ≡ other) → IsDecided (IsOutput P)
decided P alike input text other a b =
    let ok = sym a.asked.read ∙ b.asked.read in
    let job : a.job ≡ b.job = cc in
    let spelled : ArePoliciesOf (sources_of b.job.includes) b.job.states b.job.policies a.policies = subst (λ (j : Job). ArePoliciesOf (sources_of j.includes) j.states j.policies a.policies) job a.asked.spelled in
    alike b.job a.policies b.policies text other (same_policies (sources_of b.job.includes) b.job.states b.job.policies a.policies b.policies spelled b.asked.spelled)
    (subst (λ (j : Job). P j a.policies text) job a.written) b.written

some_one : {X : Type 0} (a b : Option X) (x y : X) → a ≡ b → a ≡ Some x → b ≡ Some y → x ≡ y
some_one a b x y e f g = let h = sym f ∙ e ∙ g in cc

pub check_decided : IsDecided IsCheckOutput
check_decided = decided (λ job policies text. text ≡ check_text job.several policies)
    (λ job ps qs text other same a b. a ∙ check_alike job.several ps qs same ∙ sym b)

pub run_decided : IsDecided IsRunOutput
run_decided = decided (λ job policies text. run_text job.several policies job.tasks ≡ Some text)
    (λ job ps qs text other same a b. some_one _ _ text other (run_alike ps qs same job.several job.tasks) a b)

pub replay_decided : IsDecided IsReplayOutput
replay_decided = decided (λ job policies text. replay_text job.several policies job.capacity job.tasks job.events ≡ Some text)
    (λ job ps qs text other same a b. some_one _ _ text other (replay_alike ps qs same job.several job.capacity job.tasks job.events) a b)
