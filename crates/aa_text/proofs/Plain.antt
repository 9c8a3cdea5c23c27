-- Values of texts and of numbers without a sign, written and read.
use Rattle.std.proofs.Common.{◌≡◌, ℕ, suc, max, ◌≤◌, List, [], ◌++◌, Some, option_map, option_and_then, refl, sym, ap, ap₂, ◌∙◌, arith, append-nil}
use Rattle.json.specs.Lex.{fresh, punctuate, tokens}
use Rattle.json.specs.Json as json
use Rattle.json.specs.Tree as tree
use Rattle.json.proofs.Printed.Decimals.{IsNumber-decimal}
use Rattle.json.proofs.Printed.Tokens.{tokens-print}
use Rattle.json.proofs.Printed.Trees.{ArePrintable-json_tokens, value-json_tokens}
use Rattle.serde_json.specs.Data.{unsigned, negative, float, Data, null, boolean, number, string, array, object, Items, no_items, item, Members, no_members, member, put, depth, items_depth, members_depth}
use Rattle.serde_json.specs.Read.{read, of_json, of_items, of_members, max_depth}
use Rattle.serde_json.specs.Written.{outline, items_outline, members_outline, compact_text}
use Rattle.serde_json.proofs.Texts.{print-outline}
use Rattle.serde_json.proofs.Numbers.{number_of-decimal}
use Rattle.aa_text.specs.Again.{IsPlain, ArePlain, HasPlain, settled, settled_items, settled_members}
use Rattle.aa_text.proofs.Behind.{Alike, behind_value}

mutual
  json_settled : (d : Data) → IsPlain d → of_json (outline d) ≡ Some (settled d)
  json_settled null p = refl
  json_settled (boolean b) p = refl
  json_settled (number (unsigned n)) p = ap (option_map number) (number_of-decimal n p)
  json_settled (number (negative z)) p = absurd p
  json_settled (number (float x)) p = absurd p
  json_settled (string s) p = refl
  json_settled (array ds) p = ap (option_map array) (items_settled ds p)
  json_settled (object ms) p = ap (option_map object) (members_settled ms no_members p)

  items_settled : (ds : Items) → ArePlain ds → of_items (items_outline ds) ≡ Some (settled_items ds)
  items_settled no_items p = refl
  items_settled (item d ds) p = ap₂ (λ a b. option_and_then (λ x. option_map (item x) b) a) (json_settled d p.0) (items_settled ds p.1)

  members_settled : (ms found : Members) → HasPlain ms → of_members (members_outline ms) found ≡ Some (settled_members ms found)
  members_settled no_members found p = refl
  members_settled (member k d ms) found p = ap (option_and_then (λ x. of_members (members_outline ms) (put k x found))) (json_settled d p.1) ∙ members_settled ms (put k (settled d) found) p.2

mutual
  numbers : (d : Data) → IsPlain d → tree.HasNumbers (outline d)
  numbers null p = tt
  numbers (boolean b) p = tt
  numbers (number (unsigned n)) p = IsNumber-decimal n p
  numbers (number (negative z)) p = absurd p
  numbers (number (float x)) p = absurd p
  numbers (string s) p = tt
  numbers (array ds) p = items_numbers ds p
  numbers (object ms) p = members_numbers ms p

  items_numbers : (ds : Items) → ArePlain ds → tree.ItemsHaveNumbers (items_outline ds)
  items_numbers no_items p = tt
  items_numbers (item d ds) p = (numbers d p.0, items_numbers ds p.1)

  members_numbers : (ms : Members) → HasPlain ms → tree.MembersHaveNumbers (members_outline ms)
  members_numbers no_members p = tt
  members_numbers (member k d ms) p = (numbers d p.1, members_numbers ms p.2)

mutual
  as_deep : (d : Data) → tree.depth (outline d) ≡ depth d
  as_deep null = refl
  as_deep (boolean b) = refl
  as_deep (number n) = refl
  as_deep (string s) = refl
  as_deep (array ds) = ap suc (items_as_deep ds)
  as_deep (object ms) = ap suc (members_as_deep ms)

  items_as_deep : (ds : Items) → tree.items_depth (items_outline ds) ≡ items_depth ds
  items_as_deep no_items = refl
  items_as_deep (item d ds) = ap₂ max (as_deep d) (items_as_deep ds)

  members_as_deep : (ms : Members) → tree.members_depth (members_outline ms) ≡ members_depth ms
  members_as_deep no_members = refl
  members_as_deep (member k d ms) = ap₂ max (as_deep d) (members_as_deep ms)

-- what is written of a value has the tokens of its outline, also with white space behind it
tokens_before : (end : List ℕ) → Alike end [] → (d : Data) → IsPlain d → tokens (compact_text d ++ end) ≡ tree.json_tokens (outline d)
tokens_before end alike d p =
    let ts = tree.json_tokens (outline d) in
    ap (punctuate fresh) (behind_value d p end [] alike)
    ∙ (ap tokens (append-nil (compact_text d) ∙ sym (print-outline d)) ∙ tokens-print ts (ArePrintable-json_tokens (outline d) (numbers d p)))

-- what is written of a value, with white space behind it, is read as that value
pub read_before : (end : List ℕ) → Alike end [] → (d : Data) → IsPlain d → depth d ≤ max_depth → read (compact_text d ++ end) ≡ Some (settled d)
read_before end alike d p shallow =
    let whole : json.value max_depth (tokens (compact_text d ++ end)) ≡ Some (outline d, []) =
    ap (json.value max_depth) (tokens_before end alike d p ∙ sym (append-nil (tree.json_tokens (outline d))))
    ∙ value-json_tokens (outline d) max_depth [] (omega (arith, as_deep d, shallow)) in
    ap (λ o. option_and_then of_json (option_and_then (λ q. json.if_last q.0 q.1) o)) whole ∙ json_settled d p
