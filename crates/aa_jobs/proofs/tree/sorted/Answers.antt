use Rattle.std.proofs.Common.{◌≡◌, ◌+◌, [], ◌∷◌, drop, sym, ap, ◌∙◌}
use Rattle.std.proofs.lemmas.List.{drop_more, drop_all}
use Rattle.json.specs.Value.{members_view}
use Rattle.serde_json.specs.Data.{put}
use Rattle.aa_jobs.specs.Shape.{entry_list}
use Rattle.aa_jobs.specs.Trees.{members_data, tree_data}
use Rattle.aa_jobs.proofs.Trees.{entries_data, entries_data-insert_entry, entry_list_is}
use Rattle.aa_jobs.proofs.tree.sorted.Goals as goal

pub loop-member-preserved : goal.loop-member-preserved
loop-member-preserved c =
    let i = c.loop-member.member-index in
    let x = c.member-item.result in
    let rest = drop (i + 1) c.args.members.now in
    let before = entries_data c.loop-member.sorted.entries in
    let here : drop i c.args.members.now ≡ x ∷ rest = drop_more c.args.members.now i x c.loop-member-test.true ∙ ap (λ y. y ∷ rest) (sym c.member-item.is) in
    let added : entries_data c.insert.new.self.entries ≡ put x.0.now (tree_data x.1) before = ap entries_data c.in_ok-insert.ensures.entries ∙ entries_data-insert_entry c.loop-member.sorted.entries _ _ in
    ap (members_data (members_view rest)) added ∙ ap (λ ms. members_data (members_view ms) before) (sym here) ∙ c.loop-member.invariant

pub returns : goal.returns
returns c =
    let es = c.loop-member.sorted.entries in
    let none : drop c.loop-member.member-index c.args.members.now ≡ [] = drop_all c.loop-member.member-index c.args.members.now c.loop-member-test.false in
    sym (entry_list_is es) ∙ ap entry_list (ap (λ ms. members_data (members_view ms) (entries_data es)) (sym none) ∙ c.loop-member.invariant)
