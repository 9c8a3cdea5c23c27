-- Words of a text that are asked behind others.
use Rattle.std.proofs.Common.{◌≡◌, ◌≢◌, ◌⊎◌, ◌<◌, ◌+◌, ℕ, ◌≤◌, List, ◌++◌, length, Vec, Result, Ok, Err, IfOk, inl, inr, sym, subst, ◌∙◌, ap, arith, length-append}
use Rattle.std.proofs.lemmas.List.{length-map}
use Rattle.std.proofs.lemmas.Result.{IfOk-weaker}
use Rattle.std.specs.declared.alloc.Global.{Global}
use Rattle.aa_files.specs.Texts.{texts}
use Rattle.aa_text.specs.declared.memory.NoMemory as memory
use Rattle.aa_command.specs.Setting.{Setting}
use Rattle.aa_command.specs.declared.output.Output.{Output}
use Rattle.aa_command.specs.Printed.{Printed, printed}
use Rattle.aa_ask.specs.Words.{word_lines}
use Rattle.aa_base.specs.declared.unread.Unread.{Unread}
use Rattle.aa_base.specs.declared.unread.Unread.TheVariants.{NoMemory, TooLarge}
use Rattle.aa_files.specs.FilesData.{IsMain, IsMainText}
use Rattle.aa_ask.specs.Refused.{many_words, SaysTooLarge, SaysUnreadWords}
use Rattle.aa_ask.specs.Command.{IsAskedBehind, Beyond, Within, IsAskedFrom, Unreadable, Readable}

many : (words : List (Vec ℕ Global)) → length words ≡ length (texts words)
many words = sym (length-map words (λ (v : Vec ℕ Global). v.items))

-- so many words are those before and those of the text
counted : (before words : List (Vec ℕ Global)) (text : List ℕ) → texts words ≡ texts before ++ word_lines text → length words ≡ length (texts before) + length (word_lines text)
counted before words text is = many words ∙ (ap length is ∙ length-append (texts before) (word_lines text))

module _ (asks : List (List ℕ) → Printed → Type 0) (path : List ℕ) (r : Result Output memory.NoMemory) where
  pub asked_behind : (text : List ℕ) (before words lent : List (Vec ℕ Global)) → texts words ≡ texts before ++ word_lines text → length words ≤ 65536 → lent ≡ words
      → IfOk r (λ (out : Output). asks (texts lent) (printed out)) → IfOk r (λ (out : Output). IsAskedBehind asks path (texts before) text (printed out))
  asked_behind text before words lent added few is asked =
      IfOk-weaker r (λ (out : Output). asks (texts lent) (printed out)) (λ (out : Output). IsAskedBehind asks path (texts before) text (printed out)) (λ out a.
      Within (omega (arith, counted before words text added)) (subst (λ (l : List (List ℕ)). asks l (printed out)) (ap texts is ∙ added) a)) asked

  pub asked_readable : (s : Setting) (text lent : List ℕ) (first : List (List ℕ)) → IsMainText s.files s.input path text → lent ≡ text
      → IfOk r (λ (out : Output). IsAskedBehind asks path first lent (printed out)) → IfOk r (λ (out : Output). IsAskedFrom s asks path first (printed out))
  asked_readable s text lent first main is asked =
      IfOk-weaker r (λ (out : Output). IsAskedBehind asks path first lent (printed out)) (λ (out : Output). IsAskedFrom s asks path first (printed out)) (λ out a.
      Readable text main (subst (λ (t : List ℕ). IsAskedBehind asks path first t (printed out)) is a)) asked

  pub asked_unreadable : (s : Setting) (first : List (List ℕ)) (why : Unread) → IsMain s.files s.input path (Err why)
      → IfOk r (λ (out : Output). SaysUnreadWords path why (printed out)) → IfOk r (λ (out : Output). IsAskedFrom s asks path first (printed out))
  asked_unreadable s first why main says =
      IfOk-weaker r (λ (out : Output). SaysUnreadWords path why (printed out)) (λ (out : Output). IsAskedFrom s asks path first (printed out)) (λ out a. Unreadable why main a) says

pub too_many_behind : (asks : List (List ℕ) → Printed → Type 0) (path text : List ℕ) (before : List (Vec ℕ Global)) (n : ℕ) (why : Unread) (r : Result Output memory.NoMemory)
    → n ≡ length before → (why ≡ NoMemory) ⊎ ((why ≡ TooLarge) × (65536 < n + length (word_lines text)))
    → IfOk r (λ (out : Output). SaysTooLarge path many_words (printed out)) → IfOk r (λ (out : Output). why ≢ NoMemory) → IfOk r (λ (out : Output). IsAskedBehind asks path (texts before) text (printed out))
too_many_behind asks path text before n why (Ok out) is fault says other =
    elim fault [ inl e ↦ absurd (other e) | inr f ↦ Beyond (let k = f.1 in omega (arith, many before)) says ]
too_many_behind asks path text before n why (Err e) is fault says other = tt
