use Rattle.std.proofs.Common.{◌≡◌, ◌-◌, ◌++◌, ◌∷◌, [], List, false, true, true≢false, None, Option, Some, bytes_eq, length, option_map}
use Rattle.std.proofs.Common.{refl, sym, ap, subst, ◌∙◌, arith, rules}
use Rattle.std.specs.Prelude.{codes}
use Rattle.std.proofs.lemmas.Result.{err_from_is_err_and}
use Rattle.json.specs.Json.{parse_map, read_key, value}
use Rattle.json.specs.Token.{Token}
use Rattle.json.specs.declared.value.Value.TheVariants.{Null}
use Rattle.json.proofs.Grammar.{read_key-shorter}
use Rattle.serde_json.specs.Data.{Members, no_members, put}
use Rattle.serde_json.specs.Read.{converted, of_json}
use Rattle.aa_jobs.specs.declared.job_fault.JobFault.TheVariants.{NotJson}
use Rattle.aa_jobs.specs.Made.{made_items_shape}
use Rattle.aa_jobs.specs.Raw.{raw_items}
use Rattle.aa_jobs.specs.Steps.{Gives}
use Rattle.aa_jobs.specs.Stream.{AgreeBut, Apart}
use Rattle.aa_jobs.specs.Trees.{object_data, tree_data}
use Rattle.aa_jobs.proofs.Apart.{agree_first, agree_on, shape_kept, shape_last}
use Rattle.aa_jobs.proofs.Conversion.{key_refused, member_read, member_refused, members_over}
use Rattle.aa_jobs.proofs.Trees.{object_data_push}
use Rattle.aa_jobs.proofs.Turns.{converted-shorter, needed_is, none_on, shaped_is, unmapped}
use Rattle.aa_jobs.proofs.stream.rest_of_task.Goals as goal

pub turns-init : goal.turns-init
turns-init c =
    (length c.args.reader.now, omega arith, no_members, subst (λ ms. AgreeBut (codes "requests") (object_data ms) no_members) (sym c.new-members.ensures.items) (agree_first (codes "requests")), refl, refl)

pub returns-in_err-key : goal.returns-in_err-key
returns-in_err-key c =
    let l = c.turns in
    let p = err_from_is_err_and c.from_residual.result c.from_residual.ensures.1 in
    rw (p.1, p.2) (none_on c.in_err-key.field-0.0 (read_key l.reader) _ (λ none. l.invariant.5 ∙ key_refused (value c.args.depth) l.invariant.2 l.invariant.0 l.reader none) c.in_err-key.ensures)

pub returns-in_err-requests : goal.returns-in_err-requests
returns-in_err-requests c =
    let l = c.turns in
    let p = err_from_is_err_and c.from_residual-in_err-requests.result c.from_residual-in_err-requests.ensures.1 in
    let s = c.next_key.new.reader in
    let key : read_key l.reader ≡ Some (Some c.in-Some.key.now, s) = needed_is NotJson (read_key l.reader) _ c.in_ok-key.ensures ∙ ap (λ x. Some (option_map (λ b. b.now) x, s)) c.in-Some.is in
    rw (p.1, p.2) (none_on c.in_err-requests.field-0.0 (parse_map made_items_shape (converted of_json (value c.args.depth s))) _
    (λ none. l.invariant.5 ∙ member_refused (value c.args.depth) l.invariant.2 l.invariant.0 c.in-Some.key.now l.reader s key
    (unmapped made_items_shape (converted of_json (value c.args.depth s)) none)) c.in_err-requests.ensures)

pub returns-in_err-value : goal.returns-in_err-value
returns-in_err-value c =
    let l = c.turns in
    let p = err_from_is_err_and c.from_residual-in_err-value.result c.from_residual-in_err-value.ensures.1 in
    let s = c.next_key.new.reader in
    let key : read_key l.reader ≡ Some (Some c.in-Some.key.now, s) = needed_is NotJson (read_key l.reader) _ c.in_ok-key.ensures ∙ ap (λ x. Some (option_map (λ b. b.now) x, s)) c.in-Some.is in
    rw (p.1, p.2) (none_on c.in_err-value.field-0.0 (converted of_json (value c.args.depth s)) _
    (λ none. l.invariant.5 ∙ member_refused (value c.args.depth) l.invariant.2 l.invariant.0 c.in-Some.key.now l.reader s key none) c.in_err-value.ensures)

pub turns-preserved-then-eq : goal.turns-preserved-then-eq
turns-preserved-then-eq c =
    let l = c.turns in
    let n = l.invariant.0 in
    let s = c.next_key.new.reader in
    let k = c.in-Some.key.now in
    let key : read_key l.reader ≡ Some (Some k, s) = needed_is NotJson (read_key l.reader) _ c.in_ok-key.ensures ∙ ap (λ x. Some (option_map (λ b. b.now) x, s)) c.in-Some.is in
    let r = c.items.new.reader in
    let d = shaped_is raw_items c.in_ok-requests.requests made_items_shape (converted of_json (value c.args.depth s)) r c.in_ok-requests.ensures in
    let same : bytes_eq k (codes "requests") ≡ true = grind arith in
    let pushed : c.push.new.self.items ≡ l.members.items ++ (c.in-Some.key, Null) ∷ [] = search rules in
    let less = read_key-shorter l.reader (Some k) s key in
    let lesser = converted-shorter c.args.depth s r d.0 d.1 in
    let agree = agree_on (codes "requests") k (tree_data Null) d.0 (object_data l.members.items) l.invariant.2 (λ e. absurd (true≢false (sym same ∙ e))) l.invariant.3 in (
      n - 1,
      omega (arith, l.invariant.1, less, lesser),
      put k d.0 l.invariant.2,
      subst (λ ms. AgreeBut (codes "requests") ms (put k d.0 l.invariant.2)) (sym (ap object_data pushed ∙ object_data_push l.members.items (c.in-Some.key, Null))) agree,
      subst (λ g. Gives raw_items c.in_ok-requests.requests g) (sym (shape_last made_items_shape (codes "requests") k d.0 l.invariant.2 same)) d.2,
      l.invariant.5 ∙ member_read (value c.args.depth) l.invariant.2 n k l.reader s r d.0 (omega (arith, l.invariant.1, less)) key d.1,
    )

pub turns-smaller-then-eq : goal.turns-smaller-then-eq
turns-smaller-then-eq c =
    let l = c.turns in
    let s = c.next_key.new.reader in
    let k = c.in-Some.key.now in
    let key : read_key l.reader ≡ Some (Some k, s) = needed_is NotJson (read_key l.reader) _ c.in_ok-key.ensures ∙ ap (λ x. Some (option_map (λ b. b.now) x, s)) c.in-Some.is in
    let r = c.items.new.reader in
    let d = shaped_is raw_items c.in_ok-requests.requests made_items_shape (converted of_json (value c.args.depth s)) r c.in_ok-requests.ensures in
    omega (arith, read_key-shorter l.reader (Some k) s key, converted-shorter c.args.depth s r d.0 d.1)

pub turns-preserved : goal.turns-preserved
turns-preserved c =
    let l = c.turns in
    let n = l.invariant.0 in
    let s = c.next_key.new.reader in
    let k = c.in-Some.key.now in
    let key : read_key l.reader ≡ Some (Some k, s) = needed_is NotJson (read_key l.reader) _ c.in_ok-key.ensures ∙ ap (λ x. Some (option_map (λ b. b.now) x, s)) c.in-Some.is in
    let r = c.next.new.reader in
    let v = c.in_ok-value.value in
    let read = needed_is NotJson (converted of_json (value c.args.depth s)) (tree_data v, r) c.in_ok-value.ensures in
    let other : bytes_eq k (codes "requests") ≡ false = grind arith in
    let pushed : c.push-in-Some.new.self.items ≡ l.members.items ++ (c.in-Some.key, v) ∷ [] = search rules in
    let less = read_key-shorter l.reader (Some k) s key in
    let lesser = converted-shorter c.args.depth s r (tree_data v) read in
    let agree = agree_on (codes "requests") k (tree_data v) (tree_data v) (object_data l.members.items) l.invariant.2 (λ e. refl) l.invariant.3 in (
      n - 1,
      omega (arith, l.invariant.1, less, lesser),
      put k (tree_data v) l.invariant.2,
      subst (λ ms. AgreeBut (codes "requests") ms (put k (tree_data v) l.invariant.2)) (sym (ap object_data pushed ∙ object_data_push l.members.items (c.in-Some.key, v))) agree,
      subst (λ g. Gives raw_items l.requests g) (sym (shape_kept made_items_shape (codes "requests") k (tree_data v) l.invariant.2 other)) l.invariant.4,
      l.invariant.5 ∙ member_read (value c.args.depth) l.invariant.2 n k l.reader s r (tree_data v) (omega (arith, l.invariant.1, less)) key read,
    )

pub turns-smaller : goal.turns-smaller
turns-smaller c =
    let l = c.turns in
    let s = c.next_key.new.reader in
    let k = c.in-Some.key.now in
    let key : read_key l.reader ≡ Some (Some k, s) = needed_is NotJson (read_key l.reader) _ c.in_ok-key.ensures ∙ ap (λ x. Some (option_map (λ b. b.now) x, s)) c.in-Some.is in
    let r = c.next.new.reader in
    let v = c.in_ok-value.value in
    let read = needed_is NotJson (converted of_json (value c.args.depth s)) (tree_data v, r) c.in_ok-value.ensures in
    omega (arith, read_key-shorter l.reader (Some k) s key, converted-shorter c.args.depth s r (tree_data v) read)

pub returns : goal.returns
returns c =
    let l = c.turns in
    let s = c.next_key.new.reader in
    let none : c.in_ok-key.field-0 ≡ None = search rules in
    let key : read_key l.reader ≡ Some (None, s) = needed_is NotJson (read_key l.reader) _ c.in_ok-key.ensures ∙ ap (λ x. Some (option_map (λ b. b.now) x, s)) none in
    let e = l.invariant.5 ∙ members_over (value c.args.depth) l.invariant.2 l.invariant.0 l.reader s l.invariant.1 key in
    subst (λ (o : Option (Members × List Token)). Apart (λ ms. object_data ms.items) (codes "requests") raw_items made_items_shape
    (l.members, l.requests) s o) (sym e) (refl, l.invariant.3, l.invariant.4)
