use Rattle.std.proofs.Common.{◌≡◌, ◌++◌, map, take}
use Rattle.aa_text.specs.Jsons.{behind_commas}
use Rattle.aa_text.proofs.to_json.push_later.Given as goal

abbrev pub invariant-loop-value : goal.invariant-loop-value
invariant-loop-value g l = l.out.items ≡ l.initial.out.items ++ behind_commas (map g.T.ToJson.json (take l.value-index l.values))
