-- Requests that are read one after another.
use Rattle.std.proofs.Common.{◌≡◌, ℕ, suc, ◌+◌, ◌<◌, List, [], ◌∷◌, ◌++◌, length, take, drop, get_or, refl, sym, ap, ◌∙◌, Bool, Result, Ok, Err, Vec}
use Rattle.std.specs.declared.alloc.Global.{Global}
use Rattle.std.proofs.lemmas.List.{take_more, take-append-drop, map-append}
use Rattle.std.proofs.Math.Seq.{drop-cons}
use Rattle.aa_model.specs.declared.request.Request.{Request}
use Rattle.aa_ask.specs.Words.{texts}
use Rattle.std.specs.Result.{IsErrAnd}
use Rattle.aa_ask.specs.declared.asking.AskFault.{AskFault}
use Rattle.aa_ask.specs.declared.asking.AskFault.TheVariants.{NoMemory, Refused}
use Rattle.aa_ask.specs.Asked.{Outcome, IsRefusal, Gives, request_of, requests_of, with_first}

abbrev joined : Outcome (List Request) → Outcome (List Request) → Outcome (List Request)
joined (Err line) more = Err line
joined (Ok rs) (Err line) = Err line
joined (Ok rs) (Ok more) = Ok (rs ++ more)

first_joined : (first : Outcome Request) (some more : Outcome (List Request)) → with_first first (joined some more) ≡ joined (with_first first some) more
first_joined (Err line) some more = refl
first_joined (Ok r) (Err line) more = refl
first_joined (Ok r) (Ok rs) (Err line) = refl
first_joined (Ok r) (Ok rs) (Ok more) = refl

none_joined : (more : Outcome (List Request)) → more ≡ joined (Ok []) more
none_joined (Err line) = refl
none_joined (Ok more) = refl

-- the requests of some words and then of others
requests_joined : (owned : Bool) (words others : List (List ℕ)) → requests_of owned (words ++ others) ≡ joined (requests_of owned words) (requests_of owned others)
unfolding requests_of
requests_joined owned [] others = none_joined (requests_of owned others)
requests_joined owned (word ∷ words) others = rw (requests_joined owned words others) (first_joined (request_of owned word) (requests_of owned words) (requests_of owned others))

one_read : (owned : Bool) (rs : List Request) (text : List ℕ) (r : Request) → request_of owned text ≡ Ok r → joined (Ok rs) (requests_of owned (text ∷ [])) ≡ Ok (rs ++ r ∷ [])
unfolding requests_of
one_read owned rs text r e = rw e refl

one_refused : (owned : Bool) (rs : List Request) (text : List ℕ) (others : List (List ℕ)) (line : List ℕ) → request_of owned text ≡ Err line → joined (Ok rs) (requests_of owned (text ∷ others)) ≡ Err line
unfolding requests_of
one_refused owned rs text others line e = rw e refl

-- one word more is read
pub read_more : (owned : Bool) (words : List (Vec ℕ Global)) (i : ℕ) (w : Vec ℕ Global) (text : List ℕ) (rs : List Request) (r : Request)
    → i < length words → w ≡ get_or words i w → text ≡ w.items → requests_of owned (texts (take i words)) ≡ Ok rs
    → request_of owned text ≡ Ok r → requests_of owned (texts (take (i + 1) words)) ≡ Ok (rs ++ r ∷ [])
read_more owned words i w text rs r h at is before e =
    let more : texts (take (i + 1) words) ≡ texts (take i words) ++ text ∷ [] = ap texts
    (take_more words i w h ∙ ap (λ (v : Vec ℕ Global). take i words ++ v ∷ []) (sym at))
    ∙ (map-append (λ (v : Vec ℕ Global). v.items) (take i words) (w ∷ []) ∙ ap (λ (t : List ℕ). texts (take i words) ++ t ∷ []) (sym is)) in
    ap (requests_of owned) more ∙ (requests_joined owned (texts (take i words)) (text ∷ []) ∙ (ap (λ (o : Outcome (List Request)). joined o (requests_of owned (text ∷ []))) before ∙ one_read owned rs text r e))

-- a word is none
pub read_stops : (owned : Bool) (words : List (Vec ℕ Global)) (i : ℕ) (w : Vec ℕ Global) (text : List ℕ) (rs : List Request) (line : List ℕ)
    → i < length words → w ≡ get_or words i w → text ≡ w.items → requests_of owned (texts (take i words)) ≡ Ok rs
    → request_of owned text ≡ Err line → requests_of owned (texts words) ≡ Err line
read_stops owned words i w text rs line h at is before e =
    let parts : words ≡ take i words ++ w ∷ drop (suc i) words = sym (take-append-drop i words)
    ∙ ap (λ (vs : List (Vec ℕ Global)). take i words ++ vs)
    (drop-cons words i w h ∙ ap (λ (v : Vec ℕ Global). v ∷ drop (suc i) words) (sym at)) in
    let others = texts (drop (suc i) words) in
    let all : texts words ≡ texts (take i words) ++ text ∷ others = ap texts parts
    ∙ (map-append (λ (v : Vec ℕ Global). v.items) (take i words) (w ∷ drop (suc i) words)
    ∙ ap (λ (t : List ℕ). texts (take i words) ++ t ∷ others) (sym is)) in
    ap (requests_of owned) all ∙
    (requests_joined owned (texts (take i words)) (text ∷ others)
    ∙ (ap (λ (o : Outcome (List Request)). joined o (requests_of owned (text ∷ others))) before ∙ one_refused owned rs text others line e))

pub none_read : (owned : Bool) → requests_of owned [] ≡ Ok []
unfolding requests_of
none_read owned = refl

-- what a word is refused with, all are
pub refused_with : (owned : Bool) (words : List (Vec ℕ Global)) (i : ℕ) (w : Vec ℕ Global) (text : List ℕ) (rs : List Request) (f : AskFault)
    → i < length words → w ≡ get_or words i w → text ≡ w.items → requests_of owned (texts (take i words)) ≡ Ok rs
    → IsRefusal f (request_of owned text) → IsRefusal f (requests_of owned (texts words))
refused_with owned words i w text rs NoMemory h at is before e = tt
refused_with owned words i w text rs (Refused line) h at is before e = read_stops owned words i w text rs line.items h at is before e

-- a refusal that is handed on
pub handed_on : {T A : Type 0} (shown : T → A) (r : Result T AskFault) (f : AskFault) (P : AskFault → Type 0) (o : Outcome A) → IsErrAnd r P → ((y : AskFault) → P y → y ≡ f) → IsRefusal f o → Gives shown r o
handed_on shown (Ok t) f P o a same h = absurd a
handed_on shown (Err y) f P o a same h = rw (same y a) h
