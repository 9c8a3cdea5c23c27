use Rattle.std.proofs.Common.{◌≡◌, ◌<◌, ◌+◌, ◌++◌, ◌∷◌, [], Bool, false, true, length, get_or, set, sym, ap, ◌∙◌, subst, arith}
use Rattle.std.proofs.lemmas.List.{get_or_read}
use Rattle.aa_auto.specs.Tables.{list_number}
use Rattle.aa_regions.specs.declared.regions.Region.{Region}
use Rattle.aa_regions.specs.Steps.{step_at}
use Rattle.aa_regions.specs.Regions.{AreCollected}
use Rattle.aa_regions.proofs.Collecting.{collected_same, collected_more}
use Rattle.aa_regions.proofs.regions.Collected.add.Goals as goal

pub returns-then-index : goal.returns-then-index
returns-then-index c =
    let t = c.args.automaton.now in
    let head = c.args.head.now in
    let steps = c.args.steps.now in
    let taken = c.args.self.now.taken.items in
    let rs = c.args.self.now.regions.items in
    let list = c.list_of-list.result in
    let number : list ≡ list_number t (step_at steps c.args.number).row = c.list_of-list.ensures.number in
    let lt : list < length taken = omega (arith, c.list_of-list.ensures.within, c.requires.collected.many) in
    let read : c.index.result.now ≡ get_or taken list false = get_or_read taken list c.index.result.now lt c.index.ensures false in
    let there : get_or taken list false ≡ true = ◌∙◌ {A = Bool} (sym {A = Bool} read) c.if-index.true in
    collected_same t head steps c.requires.apart c.requires.numbered c.args.number c.requires.within c.requires.rising taken rs c.requires.collected
    (subst (λ n. get_or taken n false ≡ true) number there)

pub returns : goal.returns
returns c =
    let t = c.args.automaton.now in
    let head = c.args.head.now in
    let steps = c.args.steps.now in
    let n = c.args.number in
    let taken = c.args.self.now.taken.items in
    let rs = c.args.self.now.regions.items in
    let list = c.list_of-list.result in
    let number : list ≡ list_number t (step_at steps n).row = c.list_of-list.ensures.number in
    let lt : list < length taken = omega (arith, c.list_of-list.ensures.within, c.requires.collected.many) in
    let read : c.index.result.now ≡ get_or taken list false = get_or_read taken list c.index.result.now lt c.index.ensures false in
    let fresh : get_or taken list false ≡ false = ◌∙◌ {A = Bool} (sym {A = Bool} read) c.if-index.false in
    let r : Region = record { numbers = c.from_vec-numbers.result; witness = c.in_ok-witness.witness } in
    let is : r.numbers ≡ get_or t.lists (list_number t (step_at steps n).row) [] =
    c.from_vec-numbers.ensures ∙ c.in_ok-copy.ensures.items ∙ c.list-items.ensures ∙ ap (λ i. get_or t.lists i []) number in
    subst (λ l. AreCollected t head steps (n + 1) (set taken list true) l) (sym c.in_ok-push.ensures.items)
    (subst (λ i. AreCollected t head steps (n + 1) (set taken i true) (rs ++ r ∷ [])) (sym number)
    (collected_more t head steps c.requires.apart c.requires.numbered n c.requires.within c.requires.rising taken rs c.requires.collected
    (subst (λ i. get_or taken i false ≡ false) number fresh) r is c.in_ok-witness.ensures))
