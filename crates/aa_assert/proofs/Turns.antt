-- Claims that are looked at, and answered, one after another.
use Rattle.std.proofs.Common.{◌≡◌, ℕ, suc, ◌+◌, ◌<◌, List, [], ◌∷◌, ◌++◌, length, map, take, drop, get_or, Bool, refl, ap, sym, subst, ◌∙◌}
use Rattle.std.specs.List.{AllByRecursion}
use Rattle.std.proofs.lemmas.List.{take_more, map-append}
use Rattle.std.proofs.lemmas.Slice.Zip.{all_zipped_more}
use Rattle.aa_claims.specs.declared.words.ClaimWord.{ClaimWord}
use Rattle.aa_claims.specs.declared.lines.ClaimLine.{ClaimLine}
use Rattle.aa_claims.specs.declared.fault.Wrong.{Wrong}
use Rattle.aa_claims.specs.declared.fault.ClaimFault.{ClaimFault}
use Rattle.aa_claims.specs.declared.fault.ClaimFault.TheVariants.{NoMemory, At}
use Rattle.aa_claims.specs.Faults.{SaysAt}
use Rattle.aa_assert.specs.declared.part.Part.{Part}
use Rattle.aa_assert.specs.declared.asked.Asked.{Asked}
use Rattle.aa_assert.specs.declared.stating.Stated.{Stated}
use Rattle.aa_assert.specs.declared.answering.Answer.{Answer}
use Rattle.aa_assert.specs.Kinds.{kind_of}
use Rattle.aa_assert.specs.Findings.{AllFound, AreFound}
use Rattle.aa_assert.specs.Refused.{AsksNoPath, IsUnstatedOf}
use Rattle.aa_assert.specs.Stating.{IsStatedOf, IsStated, AreStated, States, IsFirstUnstated}
use Rattle.aa_assert.specs.Answers.{Answered, answered, IsAnswerOf, IsAnswerTo, AreAnswers, IsAnswerAs, AreAnswersAs, IsFirstEmpty, IsOnNothing}
use Rattle.aa_assert.specs.Answers.{IsFirstUnanswered, Unstated, OnNothing}
use Rattle.aa_assert.proofs.Unanswered.{parted, says_more}

one_more : {A : Type 0} (xs : List A) (i : ℕ) (x : A) → i < length xs → x ≡ get_or xs i x → take (i + 1) xs ≡ take i xs ++ x ∷ []
one_more {A} xs i x lt item = take_more xs i x lt ∙ ap (λ (y : A). take i xs ++ y ∷ []) (sym item)

-- ---- what claims state

pub stated_next : (d : Part) (claims : List ClaimLine) (i : ℕ) (l : ClaimLine) (before now : List Stated) (s : Stated)
    → i < length claims → l ≡ get_or claims i l → now ≡ before ++ s ∷ [] → IsStated d l s
    → AreStated d (take i claims) before → AreStated d (take (i + 1) claims) now
stated_next d claims i l before now s lt item more is are =
    rw (one_more claims i l lt item, more) (all_zipped_more (IsStated d) (take i claims) before l s are is)

-- claims of which it is known what they state
states_all : (d : Part) (claims : List ClaimLine) (all : List Stated) → AreStated d claims all → AllByRecursion (States d) claims
states_all d [] all are = tt
states_all d (l ∷ claims) [] are = absurd are
states_all d (l ∷ claims) (s ∷ all) are = ((s.word.now, (s.asked, are.0.is)), states_all d claims all are.1)

-- a claim that states nothing, behind claims that do, is the first that doesn't
pub unstated : (d : Part) (claims : List ClaimLine) (i : ℕ) (l : ClaimLine) (all : List Stated) (e : ClaimFault)
    → i < length claims → l ≡ get_or claims i l → AreStated d (take i claims) all → SaysAt (IsUnstatedOf d l.words.items) e
    → SaysAt (IsFirstUnstated d claims) e
unstated d claims i l all NoMemory lt item before h = tt
unstated d claims i l all (At at fault) lt item before h = record {
  earlier = take i claims;
  claim = l;
  later = drop (suc i) claims;
  among = parted claims i l lt item;
  before = states_all d (take i claims) all before;
  why = h;
}

-- ---- answers to what they state

one_answer : (before now : List Answer) (a : Answer) → now ≡ before ++ a ∷ [] → map answered now ≡ map answered before ++ answered a ∷ []
one_answer before now a more = ap (λ (x : List Answer). map answered x) more ∙ map-append answered before (a ∷ [])

pub answers_next : (first : Bool) (d : Part) (limit : ℕ) (all : List Stated) (i : ℕ) (s : Stated) (before now : List Answer) (a : Answer)
    → i < length all → s ≡ get_or all i s → now ≡ before ++ a ∷ [] → IsAnswerAs first d limit s (answered a)
    → AreAnswersAs first d limit (take i all) (map answered before) → AreAnswersAs first d limit (take (i + 1) all) (map answered now)
answers_next first d limit all i s before now a lt item more is are =
    rw (one_more all i s lt item, one_answer before now a more)
    (all_zipped_more (IsAnswerAs first d limit) (take i all) (map answered before) s (answered a) are is)

pub empty_at : (first : Bool) (d : Part) (limit : ℕ) (all : List Stated) (i : ℕ) (s : Stated) (answers : List Answer) (e : ClaimFault)
    → i < length all → s ≡ get_or all i s → AreAnswersAs first d limit (take i all) (map answered answers)
    → SaysAt (AsksNoPath s.word.now s.asked) e → SaysAt (IsFirstEmpty first d limit all) e
empty_at first d limit all i s answers NoMemory lt item before h = tt
empty_at first d limit all i s answers (At at fault) lt item before h = record {
  earlier = take i all;
  one = s;
  later = drop (suc i) all;
  among = parted all i s lt item;
  answers = map answered answers;
  before = before;
  why = h;
}

-- ---- answers to claims

-- the claims that state these and more: those before the one that states this, it, and those behind it
record Parts (d : Part) (claims : List ClaimLine) (earlier : List Stated) (one : Stated) : Type 0 where
  before : List ClaimLine
  claim : ClaimLine
  behind : List ClaimLine
  among : claims ≡ before ++ claim ∷ behind
  are : AreStated d before earlier
  is : IsStated d claim one

parts : (d : Part) (claims : List ClaimLine) (earlier : List Stated) (one : Stated) (later : List Stated) → AreStated d claims (earlier ++ one ∷ later)
    → Parts d claims earlier one
parts d [] [] one later are = absurd are
parts d [] (s ∷ earlier) one later are = absurd are
parts d (l ∷ claims) [] one later are = record { before = []; claim = l; behind = claims; among = refl; are = tt; is = are.0 }
parts d (l ∷ claims) (s ∷ earlier) one later are =
    let t = parts d claims earlier one later are.1 in
    record {
      before = l ∷ t.before;
      claim = t.claim;
      behind = t.behind;
      among = ap (λ (ls : List ClaimLine). l ∷ ls) t.among;
      are = (are.0, t.are);
      is = t.is;
    }

module _ (first : Bool) (d : Part) (limit : ℕ) where
  answer_of : (ws : List ClaimWord) (word : ClaimWord) (says : Asked) (found : AllFound) → IsStatedOf d ws word says
      → AreFound first d limit ws says word.text.items found → IsAnswerOf first d limit ws found
  answer_of [] word says found h are = absurd h
  answer_of (v ∷ []) word says found h are = absurd h
  answer_of (v ∷ w ∷ ws) word says found h are = record {
    says = says;
    is_asked = h.1.is_asked;
    scope = h.1.scope;
    breakable = h.1.breakable;
    are = subst (λ (x : ClaimWord). AreFound first d limit (v ∷ w ∷ ws) says x.text.items found) h.0 are;
  }

  answer_to : (l : ClaimLine) (s : Stated) (a : Answered) → IsStated d l s → IsAnswerAs first d limit s a → IsAnswerTo first d limit l a
  answer_to l s a h is = record {
    number_is = is.number_is ∙ ap (λ (x : ClaimLine). x.number) h.line_is;
    kind_is = is.kind_is ∙ ap (λ (x : ClaimLine). kind_of x.words.items) h.line_is;
    is = answer_of l.words.items s.word.now s.asked a.found h.is
        (subst (λ (x : ClaimLine). AreFound first d limit x.words.items s.asked s.word.now.text.items a.found) h.line_is is.are);
  }

  pub answers_all : (claims : List ClaimLine) (all : List Stated) (answers : List Answered) → AreStated d claims all
      → AreAnswersAs first d limit all answers → AreAnswers first d limit claims answers
  answers_all [] [] answers are is = is
  answers_all [] (s ∷ all) answers are is = absurd are
  answers_all (l ∷ claims) [] answers are is = absurd are
  answers_all (l ∷ claims) (s ∷ all) [] are is = absurd is
  answers_all (l ∷ claims) (s ∷ all) (a ∷ answers) are is = (answer_to l s a are.0 is.0, answers_all claims all answers are.1 is.1)

  on_nothing : (ws : List ClaimWord) (word : ClaimWord) (says : Asked) (at : ℕ) (fault : Wrong) → IsStatedOf d ws word says
      → AsksNoPath word says at fault → IsOnNothing d ws at fault
  on_nothing [] word says at fault h none = absurd h
  on_nothing (v ∷ []) word says at fault h none = absurd h
  on_nothing (v ∷ w ∷ ws) word says at fault h none = (says, h.1, subst (λ (x : ClaimWord). AsksNoPath x says at fault) h.0 none)

  pub empty_all : (claims : List ClaimLine) (all : List Stated) (at : ℕ) (fault : Wrong) → AreStated d claims all
      → IsFirstEmpty first d limit all at fault → IsFirstUnanswered first d limit claims at fault
  empty_all claims all at fault are e =
      let t = parts d claims e.earlier e.one e.later (subst (λ (x : List Stated). AreStated d claims x) e.among are) in
      OnNothing (record {
        state = states_all d claims all are;
        earlier = t.before;
        claim = t.claim;
        later = t.behind;
        among = t.among;
        answers = e.answers;
        before = answers_all t.before e.earlier e.answers t.are e.before;
        why = on_nothing t.claim.words.items e.one.word.now e.one.asked at fault t.is.is e.why;
      })

  pub none_stated : (claims : List ClaimLine) (e : ClaimFault) → SaysAt (IsFirstUnstated d claims) e → SaysAt (IsFirstUnanswered first d limit claims) e
  none_stated claims e = says_more (IsFirstUnstated d claims) (IsFirstUnanswered first d limit claims) e (λ at fault h. Unstated h)
