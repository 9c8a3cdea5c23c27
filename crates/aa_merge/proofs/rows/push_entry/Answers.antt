use Rattle.std.proofs.Common.{◌≡◌, ◌++◌, ◌∷◌, [], List, length, ap, subst, ◌∙◌}
use Rattle.std.specs.Prelude.{ℕ}
use Rattle.aa_files.specs.Texts.{texts}
use Rattle.aa_merge.specs.Held.{IsEntryOf}
use Rattle.aa_merge.proofs.rows.push_entry.Goals as goal

pub returns : goal.returns
returns c =
    let e = c.in_ok-entry_of.field-0 in
    let path : c.in_ok-path.path.items ≡ c.args.row.now.path.items = c.in_ok-path.ensures.items ∙ c.as_slice.ensures.value in
    let is : IsEntryOf c.args.row.now (length c.args.paths.now.items) e = subst
    (λ (n : ℕ). IsEntryOf c.args.row.now n e) c.in_ok-log.ensures.number c.in_ok-entry_of.ensures.data in (
      e,
      is,
      c.in_ok-entry_of.ensures.word,
      c.in_ok-push.ensures.items,
      c.in_ok-log.ensures.added
          ∙ ap (λ (b : List ℕ). texts c.args.paths.now.items ++ b ∷ []) path,
    )
