use Rattle.std.proofs.Common.{◌≡◌, Bool, true, false, Contains}
use Rattle.aa_model.specs.Requests.{is_mask}
use Rattle.aa_model.specs.declared.request.Request.TheVariants.{File}
use Rattle.aa_representatives.proofs.Adding.{adds_both, adds_keep}
use Rattle.aa_quantifiers.specs.declared.word.Word.TheVariants.{Files}
use Rattle.aa_quantifiers.specs.Words.{asks_for, IsOf}
use Rattle.aa_quantifiers.proofs.requests.add_files_by.Goals as goal

pub returns-clause-adds : goal.returns-clause-adds
returns-clause-adds c =
    adds_both (IsOf (Files c.args.word.now)) c.args.requests.now.items c.add_file_if_asked.new.requests.items c.add_file_if_asked-2.new.requests.items c.in_ok-add_file_if_asked.ensures.adds c.in_ok-add_file_if_asked-2.ensures.adds

pub returns-clause-has : goal.returns-clause-has
returns-clause-has c = λ owned good. at owned good
  where
    at : (owned : Bool) → is_mask c.args.mask.0 ≡ true → asks_for c.args.word.now.whose owned ≡ true
        → Contains c.add_file_if_asked-2.new.requests.items (File (record { path = c.args.path.now; mask = c.args.mask; owned = owned }))
    at false good asks =
        adds_keep (IsOf (Files c.args.word.now)) c.add_file_if_asked.new.requests.items c.add_file_if_asked-2.new.requests.items c.in_ok-add_file_if_asked-2.ensures.adds
        (File (record { path = c.args.path.now; mask = c.args.mask; owned = false })) (c.in_ok-add_file_if_asked.ensures.has good asks)
    at true good asks = c.in_ok-add_file_if_asked-2.ensures.has good asks
