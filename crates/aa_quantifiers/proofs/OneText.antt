-- A pattern without a wildcard matches no path but its bytes.
use Rattle.std.proofs.Common.{◌≡◌, ℕ, List, [], ◌∷◌, ◌++◌, true, ap, ◌∙◌, Contains, subst, refl, sym}
use Rattle.std.specs.List.{list_all, filter_map}
use Rattle.aa_pattern.specs.declared.item.Item.{Item, Byte, One, Run, RunOne, Deep, DeepOne, Class, Choice'}
use Rattle.aa_pattern.specs.declared.pattern.Pattern.{Pattern}
use Rattle.aa_pattern.specs.Globs.{Matches, is_byte}
use Rattle.aa_pattern.specs.Matching.{is_match}
use Rattle.aa_pattern.proofs.Decided.{decided}
use Rattle.aa_compile.specs.Patterns.{is_literal}
use Rattle.aa_model.specs.Requests.{is_path}
use Rattle.aa_model.specs.declared.policy.Policy.{Policy}
use Rattle.aa_model.specs.declared.label.Label.{Label}
use Rattle.aa_model.specs.declared.request.Request.{Request}
use Rattle.aa_model.specs.declared.request.Request.TheVariants.{File, Link, Exec, Cap, Net, Change, Reload}
use Rattle.aa_quantifiers.specs.declared.order.Order.{Order}
use Rattle.aa_quantifiers.specs.declared.word.FilesWord.{FilesWord}
use Rattle.aa_quantifiers.specs.declared.word.ExecsWord.{ExecsWord}
use Rattle.aa_quantifiers.specs.declared.word.Word.{Word}
use Rattle.aa_quantifiers.specs.declared.word.Word.TheVariants.{Files, Execs}
use Rattle.aa_quantifiers.specs.Literal.{byte_in}
use Rattle.aa_quantifiers.specs.Words.{IsOf}
use Rattle.aa_quantifiers.specs.Candidates.{HasFilesOf, HasExecsOf}
use Rattle.aa_quantifiers.specs.Quantities.{StandForWord}
use Rattle.aa_quantifiers.proofs.Ordered.{itself}

one_text : (items : List Item) → list_all is_byte items ≡ true → (s : List ℕ) → Matches items s → s ≡ filter_map byte_in items
one_text [] all s m = m
one_text (Byte c ∷ items) all s m = m.2 ∙ ap (λ (l : List ℕ). l ++ m.1) m.3.0 ∙ ap (λ (l : List ℕ). c ∷ l) (one_text items all m.1 m.4)
one_text (One ∷ items) all s m = absurd (cc all)
one_text (Run ∷ items) all s m = absurd (cc all)
one_text (RunOne ∷ items) all s m = absurd (cc all)
one_text (Deep ∷ items) all s m = absurd (cc all)
one_text (DeepOne ∷ items) all s m = absurd (cc all)
one_text (Class set ∷ items) all s m = absurd (cc all)
one_text (Choice' r branches ∷ items) all s m = absurd (cc all)

pub its_bytes : (p : Pattern) → is_literal p ≡ true → (s : List ℕ) → is_match p.items.items s ≡ true → s ≡ filter_map byte_in p.items.items
its_bytes p literal s matched = one_text p.items.items literal s ((decided p.items.items s).0 matched)

module _ (rs : List Request) (path : List ℕ) where
  -- the requests at that path are all of the word's
  pub all_files : (w : FilesWord) → is_literal w.pattern ≡ true → path ≡ filter_map byte_in w.pattern.items.items
      → (is_path path ≡ true → is_match w.pattern.items.items path ≡ true → HasFilesOf w.whose path w.masks rs) → (r : Request) → IsOf (Files w) r → Contains rs r
  all_files w literal bytes has (File f) is =
      let same : f.path ≡ path = its_bytes w.pattern literal f.path is.matched ∙ sym bytes in
      subst (λ (s : List ℕ). Contains rs (File (record { path = s; mask = f.mask; owned = f.owned }))) (sym same)
      (has (subst (λ (s : List ℕ). is_path s ≡ true) same is.asked.1) (subst (λ (s : List ℕ). is_match w.pattern.items.items s ≡ true) same is.matched) f.mask is.among f.owned is.mask is.whose)
  all_files w literal bytes has (Link l) is = absurd is
  all_files w literal bytes has (Exec e) is = absurd is
  all_files w literal bytes has (Cap c) is = absurd is
  all_files w literal bytes has (Net f s) is = absurd is
  all_files w literal bytes has (Change name) is = absurd is
  all_files w literal bytes has (Reload m) is = absurd is

  pub all_execs : (w : ExecsWord) → is_literal w.pattern ≡ true → path ≡ filter_map byte_in w.pattern.items.items
      → (is_path path ≡ true → is_match w.pattern.items.items path ≡ true → HasExecsOf w.whose path rs) → (r : Request) → IsOf (Execs w) r → Contains rs r
  all_execs w literal bytes has (Exec x) is =
      let same : x.path ≡ path = its_bytes w.pattern literal x.path is.matched ∙ sym bytes in
      subst (λ (s : List ℕ). Contains rs (Exec (record { path = s; owned = x.owned }))) (sym same)
      (has (subst (λ (s : List ℕ). is_path s ≡ true) same is.asked.1) (subst (λ (s : List ℕ). is_match w.pattern.items.items s ≡ true) same is.matched) x.owned is.whose)
  all_execs w literal bytes has (File f) is = absurd is
  all_execs w literal bytes has (Link l) is = absurd is
  all_execs w literal bytes has (Cap c) is = absurd is
  all_execs w literal bytes has (Net f s) is = absurd is
  all_execs w literal bytes has (Change name) is = absurd is
  all_execs w literal bytes has (Reload m) is = absurd is

-- requests that are all of the word's, and no others, stand for the word
pub all_stand : (policies : List Policy) (label : Label) (order : Order) (w : Word) (rs : List Request) → ((r : Request) → Contains rs r → IsOf w r)
    → ((r : Request) → IsOf w r → Contains rs r) → StandForWord policies label order w rs
all_stand policies label order w rs each all = record { each = each; all = λ r is. (r, all r is, refl, itself order r) }
