use Rattle.std.proofs.Common.{◌<◌, ◌-◌, Some, length, refl, sym, ap, ◌∙◌, arith}
use Rattle.std.specs.Prelude.{get_or, flat_map}
use Rattle.std.specs.List.{slice_range}
use Rattle.aa_base.specs.declared.fault.Spot.{Spot}
use Rattle.aa_words.specs.Splits.{word_data, words_data}
use Rattle.aa_explain.specs.Heads.{if_idle, behind_paren}
use Rattle.aa_explain.proofs.Placing.{stands_first, split_before}
use Rattle.aa_explain.proofs.heads.placed_head.Goals as goal

pub returns : goal.returns
returns c =
    let words = c.args.words.now in
    let here : c.args.at < length words = omega (arith, c.requires.some, c.requires.within) in record {
      words = words_data (slice_range words c.args.at (c.args.body - 1));
      brace = word_data (get_or words (c.args.body - 1) _);
      split = split_before words c.args.at c.args.body _ c.requires.some c.requires.within;
      begins = stands_first words c.args.at _ here ∙ ap (λ (s : Spot). Some s) (sym c.spot_of.ensures);
      ends = refl;
      flags_are = c.in_ok-flags.ensures ∙ ap (flat_map if_idle) c.behind_paren.ensures;
    }
