use Rattle.std.proofs.Common.{refl, rules}
use Rattle.std.proofs.lemmas.List.Elements.{same_from_all_zip}
use Rattle.aa_files.proofs.walk.enter_source.Goals as goal

pub returns-clause-added : goal.returns-clause-added
returns-clause-added c = record {
  key = c.in_ok-key.key;
  source = record { name = c.args.name; path = c.args.path; text = c.text_of-text.result.0; is_folder = c.text_of-text.result.1 };
  key_is = same_from_all_zip _ c.args.name.items c.in_ok-key.key.items c.in_ok-key.ensures.cases.0 (λ x y h. h);
  name_is = refl;
  path_is = refl;
  text_is = c.text_of-text.ensures.text;
  folder_is = c.text_of-text.ensures.folder;
  room = search rules;
  pushed = search rules;
  entered = search rules;
}
