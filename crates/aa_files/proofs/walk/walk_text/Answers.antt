use Rattle.std.proofs.Common.{◌≡◌, ℕ, ◌<◌, ◌≤◌, List, length, take, get_or, map, All, sym, ap, subst, ◌∙◌, arith, rules}
use Rattle.std.proofs.lemmas.Iterator.Consumers.{YieldsList-turn, YieldsList-end, YieldsList-so_far}
use Rattle.std.proofs.lemmas.Iterator.Adapters.{YieldsList-from_vec}
use Rattle.std.proofs.lemmas.List.{map-id}
use Rattle.std.proofs.lemmas.List.Elements.{All-weaker, All-push, All-map}
use Rattle.aa_files.specs.Texts.{slices}
use Rattle.aa_files.specs.declared.walk.Wanted.{Wanted}
use Rattle.aa_files.specs.Walks.{Asked, IsLookedUp, walked_texts, IsClosed}
use Rattle.aa_files.specs.WalkData.{asked}
use Rattle.aa_files.proofs.Walking.{looked_kept, looked_new}
use Rattle.aa_files.proofs.Walked.{walked_more, walked_closed, walked_past, text_kept, no_fewer, asked_there}
use Rattle.std.specs.Prelude.{◌≢◌}
use Rattle.std.proofs.lemmas.Result.{err_from_is_err_and}
use Rattle.aa_files.specs.declared.unit.UnitFault.TheVariants.{NoMemory}
use Rattle.aa_files.specs.UnitFaults.{IsLookUpFault, IsWalkFault}
use Rattle.aa_files.specs.Nodes.{text_of_node}
use Rattle.aa_words.specs.Found.{HasIncludes}
use Rattle.aa_files.proofs.Faulted.{handed_on}
use Rattle.aa_files.proofs.Wanting.{asks_of, wanted_of, looked_before, node_text}
use Rattle.aa_files.proofs.walk.walk_text.Goals as goal

pub loop-one-preserved : goal.loop-one-preserved
loop-one-preserved g c =
    let files = g.T.Tree.files c.args.tree.now in
    let u = c.loop-one.unit in
    let v = c.look_up.new.unit in
    let main = c.args.unit.now.text.items in
    let inv = c.loop-one.invariant in
    let looks = c.in_ok-look_up.ensures.adds in
    let turn = YieldsList-turn
    (YieldsList-from_vec {s = c.into_iter-one-iterator.result} c.in_ok-wanted.wanted.items (search rules)
    (search rules)) c.loop-one.yielded c.loop-one.one-iterator c.loop-one.yielded_by c.next.result c.next.new.self c.in-Some.one c.in-Some.is c.next.ensures.steps in
    let text-is : c.walked_text.result.now ≡ get_or (walked_texts main u.sources.items) c.args.number main = c.walked_text.ensures ∙ sym inv.same in
    let inc = asked_there (slices c.args.folders.now) main c.walked_text.result.now c.args.number u.sources.items c.in_ok-wanted.wanted.items
    (length c.loop-one.yielded) c.in-Some.one inv.within text-is
    (asks_of (slices c.args.folders.now) c.walked_text.result.now c.in_ok-wanted.wanted.items c.in_ok-wanted.ensures) turn.0 turn.1 in
    let within : c.args.number ≤ length v.sources.items = omega (arith, no_fewer files (asked c.in-Some.one) u v looks, inv.within) in
    record {
      walked = walked_more files (slices c.args.folders.now) c.args.unit.now.path.items main c.args.number (asked c.in-Some.one) u v inv.within inc looks inv.walked;
      within = within;
      same = text_kept files main c.args.number (asked c.in-Some.one) u v inv.within looks ∙ inv.same;
      each = All-push (λ w. IsLookedUp files v.sources.items v.known.entries (asked w)) c.loop-one.yielded c.in-Some.one
          (All-weaker (λ w. IsLookedUp files u.sources.items u.known.entries (asked w)) (λ w. IsLookedUp files v.sources.items v.known.entries (asked w))
          (λ w h. looked_kept files (slices c.args.folders.now) main (asked c.in-Some.one) u.sources.items u.known.entries v.sources.items v.known.entries inv.walked.walk looks.adds (asked w) h) c.loop-one.yielded inv.each)
          (looked_new files (slices c.args.folders.now) main (asked c.in-Some.one) u.sources.items u.known.entries v.sources.items v.known.entries looks.adds);
    }

pub returns-clause-walked : goal.returns-clause-walked
returns-clause-walked g c =
    let u = c.loop-one.unit in
    let main = c.args.unit.now.text.items in
    let inv = c.loop-one.invariant in
    let end = YieldsList-end
    (YieldsList-from_vec {s = c.into_iter-one-iterator.result} c.in_ok-wanted.wanted.items (search rules)
    (search rules)) c.loop-one.yielded c.loop-one.one-iterator c.loop-one.yielded_by c.next.result c.next.new.self c.in-None.is c.next.ensures.steps in
    let all : c.loop-one.yielded ≡ c.in_ok-wanted.wanted.items = sym (map-id c.loop-one.yielded) ∙ end.0 in
    let files = g.T.Tree.files c.args.tree.now in
    let each : All (λ w. IsLookedUp files u.sources.items u.known.entries (asked w)) c.in_ok-wanted.wanted.items = subst (λ (ws : List Wanted). All (λ w. IsLookedUp files u.sources.items u.known.entries (asked w)) ws) all inv.each in
    let closed : IsClosed files
    (slices c.args.folders.now) u.sources.items u.known.entries c.walked_text.result.now = record {
      asked = map asked c.in_ok-wanted.wanted.items;
      asks = asks_of (slices c.args.folders.now) c.walked_text.result.now c.in_ok-wanted.wanted.items c.in_ok-wanted.ensures;
      each = All-map (IsLookedUp files u.sources.items u.known.entries) asked c.in_ok-wanted.wanted.items each;
    } in
    let text-is : c.walked_text.result.now ≡ get_or (walked_texts main u.sources.items) c.args.number main = c.walked_text.ensures ∙ sym inv.same in
    walked_closed (g.T.Tree.files c.args.tree.now) (slices c.args.folders.now) c.args.unit.now.path.items main c.args.number u inv.within
    (subst (λ (t : List ℕ). IsClosed files (slices c.args.folders.now) u.sources.items u.known.entries t) text-is closed) inv.walked

pub returns-then-number-len-clause-walked : goal.returns-then-number-len-clause-walked
returns-then-number-len-clause-walked g c =
    let past : length c.args.unit.now.sources.items < c.args.number = omega (arith, c.len.ensures) in
    walked_past (g.T.Tree.files c.args.tree.now) (slices c.args.folders.now) c.args.unit.now.path.items c.args.unit.now.text.items c.args.number c.args.unit.now past c.requires

pub returns-in_err-look_up-clause-fault : goal.returns-in_err-look_up-clause-fault
returns-in_err-look_up-clause-fault g c =
    let files = g.T.Tree.files c.args.tree.now in
    let folders = slices c.args.folders.now in
    let u = c.loop-one.unit in
    let main = c.args.unit.now.text.items in
    let inv = c.loop-one.invariant in
    let turn = YieldsList-turn
    (YieldsList-from_vec {s = c.into_iter-one-iterator.result} c.in_ok-wanted.wanted.items (search rules)
    (search rules)) c.loop-one.yielded c.loop-one.one-iterator c.loop-one.yielded_by c.next.result c.next.new.self c.in-Some.one c.in-Some.is c.next.ensures.steps in
    let text-is : c.walked_text.result.now ≡ get_or (walked_texts main u.sources.items) c.args.number main = c.walked_text.ensures ∙ sym inv.same in
    let text : c.walked_text.result.now ≡ text_of_node u c.args.number = text-is ∙ ap (λ (m : List ℕ). get_or (walked_texts m u.sources.items) c.args.number m) (sym inv.walked.text_is) ∙ sym (node_text u c.args.number) in
    let wanted = c.in_ok-wanted.wanted.items in
    let are = c.in_ok-wanted.ensures in
    let so-far = YieldsList-so_far (YieldsList-from_vec {s = c.into_iter-one-iterator.result} wanted (search rules) (search rules)) c.loop-one.yielded c.loop-one.one-iterator c.loop-one.yielded_by in
    let number = length c.loop-one.yielded in
    let before : c.loop-one.yielded ≡ take number wanted = sym (map-id c.loop-one.yielded) ∙ so-far in
    let it = wanted_of folders wanted are.includes number c.in-Some.one are.each turn.0 turn.1 in
    let p = err_from_is_err_and c.from_residual-in_err-look_up.result c.from_residual-in_err-look_up.ensures.1 in
    handed_on c.from_residual-in_err-look_up.result _ _ (λ e. e ≢ NoMemory → IsWalkFault files folders c.args.unit.now.path.items main e) p.1 p.2
    (λ other. record {
      so_far = u;
      node = c.args.number;
      walked = inv.walked;
      within = inv.within;
      includes = are.includes;
      of_text = subst (λ (t : List ℕ). HasIncludes t are.includes) text are.of_text;
      number = number;
      include = it.0;
      is = it.1;
      before = looked_before folders files u.sources.items u.known.entries wanted c.loop-one.yielded are.includes number are.each before inv.each;
      stopped = subst (λ (w : ℕ × Asked). IsLookUpFault files u c.args.number w.0 w.1 c.in_err-look_up.field-0.0) it.2 c.in_err-look_up.ensures.fault;
    })
