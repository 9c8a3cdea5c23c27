-- The words that are printed lead where the requests do.
use Rattle.std.proofs.Common.{◌≡◌, ℕ, ◌<◌, List, [], ◌∷◌, map, All, Bool, true, false, cond, Option, Some, inl, inr, length, refl, sym, ap}
use Rattle.std.proofs.Common.{◌∙◌, subst}
use Rattle.std.specs.Prelude.{◌&&◌, ◌==◌, not, nat_lt, if◌then◌else◌}
use Rattle.std.proofs.lemmas.Bool.{eqb-true, lt-ltb}
use Rattle.std.proofs.lemmas.List.Elements.{All-cons, All-head, All-tail, All-nil}
use Rattle.aa_model.specs.declared.policy.Policy.{Policy}
use Rattle.aa_model.specs.declared.label.Label.{Label}
use Rattle.aa_model.specs.declared.label.Label.TheVariants.{Unconfined, Confined}
use Rattle.aa_model.specs.declared.request.Request.{Request}
use Rattle.aa_model.specs.declared.request.Request.TheVariants.{File, Link, Exec, Cap, Net, Change, Reload}
use Rattle.aa_model.specs.declared.answer.Answer.{Answer}
use Rattle.aa_machine.specs.Run.{state_after}
use Rattle.aa_mediate.specs.Reply.{reply}
use Rattle.aa_base.specs.Tables.{capability_names, family_names, sock_type_names}
use Rattle.aa_model.specs.Requests.{is_path, is_mask, is_wanted_name}
use Rattle.aa_notation.specs.Parts.{are_bytes, is_path_of_bytes}
use Rattle.aa_notation.specs.Kinds.{is_askable, request_in, word_text}
use Rattle.aa_notation.proofs.Reading.{words_are_read}
use Rattle.aa_ask.specs.Told.{is_same}
use Rattle.aa_representatives.specs.Askable.{IsAskable}
use Rattle.aa_reachability.specs.Moves.{is_by_complain, label_kept, label_next, label_going}
use Rattle.aa_reachability.specs.Reach.{led_by}
use Rattle.aa_reach.specs.Routes.{as_others, is_granted_alike, is_alike, plain, turns_by}
use Rattle.aa_reach.specs.Laws.{told_way, has_word, WordsLead}

both : (a b : Bool) → (a && b) ≡ true → (a ≡ true) × (b ≡ true)
both true b e = (refl, e)
both false b e = absurd (cc e)

same_flags : (x y : Bool) → (if x then y else not y) ≡ true → x ≡ y
same_flags true true e = refl
same_flags true false e = absurd (cc e)
same_flags false true e = absurd (cc e)
same_flags false false e = refl

same_label : (l m : Label) → is_same l m ≡ true → l ≡ m
same_label (Unconfined j) (Unconfined k) e = ap Unconfined (eqb-true j k e)
same_label (Unconfined j) (Confined k n) e = absurd (cc e)
same_label (Confined j m) (Unconfined k) e = absurd (cc e)
same_label (Confined j m) (Confined k n) e =
    let h = both (j == k) (m == n) e in
    ap (λ (x : ℕ). Confined x m) (eqb-true j k h.0) ∙ ap (Confined k) (eqb-true m n h.1)

-- answers that are alike move a task alike
going_alike : (enforced : Bool) (l : Label) (a b : Answer) → is_alike a b ≡ true
    → cond enforced (label_kept l a) a.label ≡ cond enforced (label_kept l b) b.label
going_alike enforced l a b e =
    let h = both (is_same a.label b.label) (is_granted_alike a b) e in
    let flags : is_by_complain a ≡ is_by_complain b = same_flags (is_by_complain a) (is_by_complain b) h.1 in
    ap (λ (m : Label). cond enforced (cond (is_by_complain a) l m) m) (same_label a.label b.label h.0)
    ∙ ap (λ (c : Bool). cond enforced (cond c l b.label) b.label) flags

others_asked : (r : Request) → IsAskable r → IsAskable (as_others r)
others_asked (Exec e) is = is
others_asked (File f) is = is
others_asked (Link l) is = is
others_asked (Cap c) is = is
others_asked (Net f s) is = is
others_asked (Change name) is = is
others_asked (Reload m) is = is

plain_asked : (ps : List Policy) (l : Label) (r : Request) → IsAskable r → IsAskable (plain ps l r)
plain_asked ps l r is = at (is_alike (reply ps l (as_others r)) (reply ps l r))
  where
    at : (b : Bool) → IsAskable (if b then as_others r else r)
    at true = others_asked r is
    at false = is

plain_goes : (enforced : Bool) (ps : List Policy) (l : Label) (r : Request) → label_going enforced ps l (plain ps l r) ≡ label_going enforced ps l r
plain_goes enforced ps l r = at (is_alike (reply ps l (as_others r)) (reply ps l r)) refl
  where
    at : (b : Bool) → is_alike (reply ps l (as_others r)) (reply ps l r) ≡ b
        → label_going enforced ps l (if b then as_others r else r) ≡ label_going enforced ps l r
    at true e = going_alike enforced l (reply ps l (as_others r)) (reply ps l r) e
    at false e = refl

all_asked : (enforced : Bool) (ps : List Policy) (l : Label) (way : List Request) → All IsAskable way → All IsAskable (told_way enforced ps l way)
all_asked enforced ps l [] all = All-nil IsAskable
all_asked enforced ps l (r ∷ rs) all =
    let next = label_going enforced ps l r in
    All-cons IsAskable (plain ps l r) (told_way enforced ps next rs) (plain_asked ps l r (All-head IsAskable r rs all))
    (all_asked enforced ps next rs (All-tail IsAskable r rs all))

words_so : (enforced : Bool) (ps : List Policy) (l : Label) (way : List Request)
    → map (λ t. t.word) (turns_by enforced ps l way) ≡ map word_text (told_way enforced ps l way)
unfolding turns_by
words_so enforced ps l [] = refl
words_so enforced ps l (r ∷ rs) = ap (λ (ws : List (List ℕ)). word_text (plain ps l r) ∷ ws) (words_so enforced ps (label_going enforced ps l r) rs)

lead_so : (enforced : Bool) (ps : List Policy) (l : Label) (way : List Request)
    → led_by (label_going enforced ps) l (told_way enforced ps l way) ≡ led_by (label_going enforced ps) l way
lead_so enforced ps l [] = refl
lead_so enforced ps l (r ∷ rs) =
    let next = label_going enforced ps l r in
    ap (λ (m : Label). led_by (label_going enforced ps) m (told_way enforced ps next rs)) (plain_goes enforced ps l r)
    ∙ lead_so enforced ps next rs

run_so : (ps : List Policy) (l : Label) (way : List Request)
    → state_after (label_next ps) (reply ps) l (told_way false ps l way) ≡ state_after (label_next ps) (reply ps) l way
run_so ps l [] = refl
run_so ps l (r ∷ rs) =
    let next = label_next ps l r in
    ap (λ (m : Label). state_after (label_next ps) (reply ps) m (told_way false ps next rs)) (plain_goes false ps l r)
    ∙ run_so ps next rs

-- what can be asked, and has a word, is read from it
bytes_so : (text : List ℕ) → All (λ b. b < 256) text → are_bytes text ≡ true
bytes_so [] all = refl
bytes_so (b ∷ bs) all =
    ap (λ (x : Bool). x && are_bytes bs) (lt-ltb b 256 (All-head (λ n. n < 256) b bs all)) ∙ bytes_so bs (All-tail (λ n. n < 256) b bs all)

and_so : (a b : Bool) → a ≡ true → b ≡ true → (a && b) ≡ true
and_so a b e f = ap (λ (x : Bool). x && b) e ∙ f

path_so : (path : List ℕ) → All (λ b. b < 256) path × (is_path path ≡ true) → is_path_of_bytes path ≡ true
path_so path is = and_so (are_bytes path) (is_path path) (bytes_so path is.0) is.1

askable_so : (r : Request) → IsAskable r → has_word r ≡ true → is_askable r ≡ true
askable_so (File f) (inl is) h = and_so (is_path_of_bytes f.path) (is_mask f.mask.0) (path_so f.path is.0) is.1
askable_so (File f) (inr (inl is)) h = absurd is
askable_so (File f) (inr (inr (inl is))) h = absurd is
askable_so (File f) (inr (inr (inr (inl is)))) h = absurd is
askable_so (File f) (inr (inr (inr (inr (inl is))))) h = absurd is
askable_so (File f) (inr (inr (inr (inr (inr (inl is)))))) h = absurd is
askable_so (File f) (inr (inr (inr (inr (inr (inr is)))))) h = absurd is
askable_so (Link l) (inl is) h = absurd is
askable_so (Link l) (inr (inl is)) h = and_so (is_path_of_bytes l.link) (is_path_of_bytes l.target) (path_so l.link is.0) (path_so l.target is.1)
askable_so (Link l) (inr (inr (inl is))) h = absurd is
askable_so (Link l) (inr (inr (inr (inl is)))) h = absurd is
askable_so (Link l) (inr (inr (inr (inr (inl is))))) h = absurd is
askable_so (Link l) (inr (inr (inr (inr (inr (inl is)))))) h = absurd is
askable_so (Link l) (inr (inr (inr (inr (inr (inr is)))))) h = absurd is
askable_so (Exec e) (inl is) h = absurd is
askable_so (Exec e) (inr (inl is)) h = absurd is
askable_so (Exec e) (inr (inr (inl is))) h = path_so e.path is
askable_so (Exec e) (inr (inr (inr (inl is)))) h = absurd is
askable_so (Exec e) (inr (inr (inr (inr (inl is))))) h = absurd is
askable_so (Exec e) (inr (inr (inr (inr (inr (inl is)))))) h = absurd is
askable_so (Exec e) (inr (inr (inr (inr (inr (inr is)))))) h = absurd is
askable_so (Cap c) (inl is) h = absurd is
askable_so (Cap c) (inr (inl is)) h = absurd is
askable_so (Cap c) (inr (inr (inl is))) h = absurd is
askable_so (Cap c) (inr (inr (inr (inl is)))) h = lt-ltb c (length capability_names) is
askable_so (Cap c) (inr (inr (inr (inr (inl is))))) h = absurd is
askable_so (Cap c) (inr (inr (inr (inr (inr (inl is)))))) h = absurd is
askable_so (Cap c) (inr (inr (inr (inr (inr (inr is)))))) h = absurd is
askable_so (Net f s) (inl is) h = absurd is
askable_so (Net f s) (inr (inl is)) h = absurd is
askable_so (Net f s) (inr (inr (inl is))) h = absurd is
askable_so (Net f s) (inr (inr (inr (inl is)))) h = absurd is
askable_so (Net f s) (inr (inr (inr (inr (inl is))))) h =
    and_so (nat_lt f (length family_names)) (nat_lt s (length sock_type_names)) (lt-ltb f (length family_names) is.0) (lt-ltb s (length sock_type_names) is.1)
askable_so (Net f s) (inr (inr (inr (inr (inr (inl is)))))) h = absurd is
askable_so (Net f s) (inr (inr (inr (inr (inr (inr is)))))) h = absurd is
askable_so (Change name) (inl is) h = absurd is
askable_so (Change name) (inr (inl is)) h = absurd is
askable_so (Change name) (inr (inr (inl is))) h = absurd is
askable_so (Change name) (inr (inr (inr (inl is)))) h = absurd is
askable_so (Change name) (inr (inr (inr (inr (inl is))))) h = absurd is
askable_so (Change name) (inr (inr (inr (inr (inr (inl is)))))) h = and_so (are_bytes name) (is_wanted_name name) (bytes_so name is.0) is.1
askable_so (Change name) (inr (inr (inr (inr (inr (inr is)))))) h = absurd is
askable_so (Reload m) is h = absurd (cc h)

others_word : (r : Request) → has_word r ≡ true → has_word (as_others r) ≡ true
others_word (Exec e) h = refl
others_word (File f) h = h
others_word (Link l) h = h
others_word (Cap c) h = h
others_word (Net f s) h = h
others_word (Change name) h = h
others_word (Reload m) h = h

plain_word : (ps : List Policy) (l : Label) (r : Request) → has_word r ≡ true → has_word (plain ps l r) ≡ true
plain_word ps l r is = at (is_alike (reply ps l (as_others r)) (reply ps l r))
  where
    at : (b : Bool) → has_word (if b then as_others r else r) ≡ true
    at true = others_word r is
    at false = is

read_so : (enforced : Bool) (ps : List Policy) (l : Label) (way : List Request) → All IsAskable way → All (λ r. has_word r ≡ true) way
    → map (λ t. request_in false t.word) (turns_by enforced ps l way) ≡ map Some (told_way enforced ps l way)
unfolding turns_by
read_so enforced ps l [] asked words = refl
read_so enforced ps l (r ∷ rs) asked words =
    let next = label_going enforced ps l r in
    let can = plain_asked ps l r (All-head IsAskable r rs asked) in
    let one : request_in false (word_text (plain ps l r)) ≡ Some (plain ps l r) =
    words_are_read (plain ps l r) (askable_so (plain ps l r) can (plain_word ps l r (All-head (λ q. has_word q ≡ true) r rs words))) in
    ap (λ (x : Option Request). x ∷ map (λ t. request_in false t.word) (turns_by enforced ps next rs)) one
    ∙ ap (λ (xs : List (Option Request)). Some (plain ps l r) ∷ xs)
    (read_so enforced ps next rs (All-tail IsAskable r rs asked) (All-tail (λ q. has_word q ≡ true) r rs words))

pub words_lead : WordsLead
words_lead enforced ps from way all = record {
  asked = all_asked enforced ps from way all;
  words = words_so enforced ps from way;
  read = λ words. read_so enforced ps from way all words;
  lead = lead_so enforced ps from way;
  run = λ e.
      let after = state_after (label_next ps) (reply ps) from in
      subst (λ (b : Bool). after (told_way b ps from way) ≡ after way) (sym e) (run_so ps from way);
}
