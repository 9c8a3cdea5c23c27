use Rattle.std.proofs.Common.{◌≡◌, ◌+◌, ◌∙◌, ap, arith, refl, Some, None, suc}
use Rattle.aa_glob.specs.Ways.{items_of, unread, unread_all}
use Rattle.aa_glob.proofs.Tables.{IsPut, put_in, told}
use Rattle.aa_glob.proofs.Walks.{walk_known, walk_into, walk_circle, walk_refused, unseen_new, unread_push}
use Rattle.aa_glob.proofs.walk.enter.Goals as goal

pub returns-in-Some-Some-clause-ok : goal.returns-in-Some-Some-clause-ok
returns-in-Some-Some-clause-ok c = λ raw w.
    walk_known w c.args.behind c.args.keep c.args.name.now c.in-Some-Some.field-0-0 c.requires.next (told c.args.name.now c.args.done.now.entries _ c.in-Some-Some.ensures.value ∙ ap Some c.in-Some-Some.field-0-is)

pub returns-in-Some-None-clause-err : goal.returns-in-Some-None-clause-err
returns-in-Some-None-clause-err c = λ _ raw w. walk_circle w c.requires.next (told c.args.name.now c.args.done.now.entries _ c.in-Some-None.ensures.value ∙ ap Some c.in-Some-None.field-0-is)

pub returns-in-Err-clause-err : goal.returns-in-Err-clause-err
returns-in-Err-clause-err c = λ _ raw w. walk_refused w c.requires.next c.in-Err.ensures.err

pub returns-in_ok-push-in-None-clause-ok : goal.returns-in_ok-push-in-None-clause-ok
returns-in_ok-push-in-None-clause-ok c = λ raw w.
    walk_into w _ _ c.in_ok-push-in-None.ensures.items
    (put_in c.args.done.now.entries c.insert.new.self.entries c.args.name None c.in_ok-insert-in-None.field-0 c.in_ok-insert-in-None.ensures.old c.in_ok-insert-in-None.ensures.len c.in_ok-insert-in-None.ensures.updates.0)
    (told c.args.name.now c.args.done.now.entries _ c.in-None.ensures.value) c.requires.next c.in-Ok.ensures.ok.0 c.in-Ok.ensures.ok.1 refl refl

pub returns-in_ok-push-in-None-clause-less : goal.returns-in_ok-push-in-None-clause-less
returns-in_ok-push-in-None-clause-less c =
    let put : IsPut c.args.done.now.entries c.insert.new.self.entries c.args.name.now None =
    put_in c.args.done.now.entries c.insert.new.self.entries c.args.name None c.in_ok-insert-in-None.field-0 c.in_ok-insert-in-None.ensures.old c.in_ok-insert-in-None.ensures.len c.in_ok-insert-in-None.ensures.updates.0 in
    let above : unread_all c.push.new.self.items ≡ unread_all c.args.stack.now.items + suc (unread c.args.top) = ap unread_all c.in_ok-push-in-None.ensures.items ∙ unread_push c.args.stack.now.items c.args.top in
    omega (
      arith,
      above,
      unseen_new c.args.done.now.entries c.insert.new.self.entries c.args.name.now None put c.args.vars.now (items_of c.in-Ok.values.now)
          (told c.args.name.now c.args.done.now.entries _ c.in-None.ensures.value) c.in-Ok.ensures.ok.1,
    )
