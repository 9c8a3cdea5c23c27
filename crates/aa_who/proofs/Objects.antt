-- A word that isn't one request alone is read as what it asks of objects.
use Rattle.std.proofs.Common.{◌≡◌, ℕ, List, Bool, true, false, true≢false, not, Option, Some, Result, Ok, Err, sym, subst}
use Rattle.std.specs.Prelude.{◌&&◌, IfOk, IfErr}
use Rattle.aa_model.specs.declared.request.Request.{Request}
use Rattle.aa_model.specs.declared.request.Request.TheVariants as asks
use Rattle.aa_notation.specs.Kinds.{request_in}
use Rattle.aa_quantifiers.specs.declared.word.Whose.{Whose}
use Rattle.aa_quantifiers.specs.declared.word.Word.{Word}
use Rattle.aa_who.specs.declared.fault.Misread.{Misread}
use Rattle.aa_who.specs.declared.fault.Misread.TheVariants as misread
use Rattle.aa_who.specs.Words.{is_alone, whose_in, object_in, is_of_files, IsOfObject, IsAlone, IsReadBy, IsRead, IsNoRequest, SaysNoPattern, SaysNoObject, SaysUnread, SaysMisread}

pub object_read : (word : List ℕ) (whose : Whose) (text : List ℕ) (r : Result Word Misread) → is_alone word ≡ false → (whose, text) ≡ whose_in word
    → IfOk r (IsOfObject whose (object_in text)) → IfOk r (IsRead word)
object_read word whose text r others so h =
    subst (λ (b : Bool). IfOk r (IsReadBy b word)) (sym others)
    (subst (λ (p : Whose × List ℕ). IfOk r (IsOfObject p.0 (object_in p.1))) so h)

pub object_unread : (word : List ℕ) (whose : Whose) (text : List ℕ) (r : Result Word Misread) → is_alone word ≡ false → (whose, text) ≡ whose_in word
    → IfErr r (SaysNoObject word whose (object_in text)) → IfErr r (SaysMisread word)
object_unread word whose text r others so h =
    subst (λ (b : Bool). IfErr r (SaysUnread word (not b && is_of_files (object_in (whose_in word).1)) (IsReadBy b word))) (sym others)
    (subst (λ (p : Whose × List ℕ). IfErr r (SaysNoObject word p.0 (object_in p.1))) so h)

-- a word that is to be one request alone, and is none
pub alone_unread : (word : List ℕ) (r : Result Word Misread) → is_alone word ≡ true → IfErr r (SaysUnread word false (IsAlone (request_in false word)))
    → IfErr r (SaysMisread word)
alone_unread word r alone h =
    subst (λ (b : Bool). IfErr r (SaysUnread word (not b && is_of_files (object_in (whose_in word).1)) (IsReadBy b word))) (sym alone) h

nothing_read : (whose : Whose) (o : Option (Request × List ℕ)) → is_of_files o ≡ false → (w : Word) → IsOfObject whose o w → ⊥
nothing_read whose (Some (asks.File f, text)) e w = absurd (true≢false e)
nothing_read whose (Some (asks.Exec x, text)) e w = absurd (true≢false e)
nothing_read whose _ e w = λ h. h

-- what asks for no files is no request
pub no_object : (word : List ℕ) (whose : Whose) (o : Option (Request × List ℕ)) (e : Misread) → is_of_files o ≡ false → IsNoRequest word e
    → SaysNoObject word whose o e
no_object word whose o misread.NoMemory none h = tt
no_object word whose o misread.NoPattern none h = absurd h
no_object word whose o (misread.NoRequest why) none h = (nothing_read whose o none, none, h)

-- a path that is no pattern
pub no_pattern : (word : List ℕ) (whose : Whose) (o : Option (Request × List ℕ)) (r : Result Word Misread) → is_of_files o ≡ true
    → IfErr r (SaysNoPattern (IsOfObject whose o)) → IfErr r (SaysNoObject word whose o)
no_pattern word whose o (Ok w) some h = tt
no_pattern word whose o (Err misread.NoMemory) some h = tt
no_pattern word whose o (Err misread.NoPattern) some h = (h, some)
no_pattern word whose o (Err (misread.NoRequest why)) some h = absurd h
