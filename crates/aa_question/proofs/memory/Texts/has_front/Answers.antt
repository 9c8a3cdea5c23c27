use Rattle.std.proofs.Common.{◌≡◌, false, nat_eq, sym, ap, ◌∙◌, rules}
use Rattle.std.specs.List.{starts_with}
use Rattle.std.specs.Map.Iter.{deref_pair}
use Rattle.std.proofs.lemmas.Map.Iter.{rest_more, rest_all}
use Rattle.aa_question.proofs.Fronts.{from, first_begins, searched, front_is}
use Rattle.aa_question.proofs.memory.Texts.has_front.Goals as goal

pub returns-in-Some : goal.returns-in-Some
returns-in-Some c =
    let es = c.args.self.now.rows.entries in
    let front = c.args.front.now in
    let between : c.range.result ≡ from front es = search rules in
    let more = rest_more deref_pair c.range.result c.next.new.self c.next.result (c.in-Some.path, c.in-Some.field-0-1) c.in-Some.is c.next.ensures.steps in
    let first : first_begins front.items (from front es) ≡ starts_with nat_eq c.in-Some.path.now.items front.items = ap (first_begins front.items) (sym between ∙ more) in
    let told : c.starts_with.result ≡ starts_with nat_eq c.in-Some.path.now.items front.items = rw (c.as_slice.ensures.value, c.as_slice-in-Some.ensures.value) at c.starts_with.ensures.value in
    told ∙ sym first ∙ searched front es c.range.ensures.ordered ∙ front_is front.items es

pub returns-in-None : goal.returns-in-None
returns-in-None c =
    let es = c.args.self.now.rows.entries in
    let front = c.args.front.now in
    let between : c.range.result ≡ from front es = search rules in
    let none = rest_all deref_pair c.range.result c.next.new.self c.next.result c.in-None.is c.next.ensures.steps in
    let first : first_begins front.items (from front es) ≡ false = ap (first_begins front.items) (sym between ∙ none) in
    sym first ∙ searched front es c.range.ensures.ordered ∙ front_is front.items es
