use Rattle.std.proofs.Common.{◌≡◌, ◌∙◌, ap, subst, List, ℕ, flat_map, option_to_list, take}
use Rattle.std.proofs.lemmas.List.{take_all}
use Rattle.aa_words.specs.declared.found.IncludeAt.{IncludeAt}
use Rattle.aa_words.specs.Found.{HasIncludes}
use Rattle.aa_words.specs.FoundData.{includes_data}
use Rattle.aa_files.specs.Trails.{step_of}
use Rattle.aa_files.proofs.trail.steps_of.Goals as goal

pub returns : goal.returns
returns c =
    let all : take c.loop-include.include-index c.deref-include-items.result.now ≡ c.in_ok-includes.includes.items = take_all c.loop-include.include-index c.deref-include-items.result.now c.loop-include-test.false
    ∙ c.deref-include-items.ensures.value in
    record {
      includes = includes_data c.in_ok-includes.includes.items;
      of_text = subst (λ (t : List ℕ). HasIncludes t (includes_data c.in_ok-includes.includes.items)) c.text_of_node.ensures.text c.in_ok-includes.ensures;
      each = c.loop-include.invariant ∙ ap (λ (is : List IncludeAt). flat_map (λ i. option_to_list (step_of c.args.unit.now c.args.node i)) (includes_data is)) all;
    }
