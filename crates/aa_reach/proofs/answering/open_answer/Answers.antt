use Rattle.std.proofs.Common.{List, [], ◌∷◌, ◌++◌, map, ap, ◌∙◌}
use Rattle.aa_reach.specs.declared.doubts.Doubt.{Doubt}
use Rattle.aa_reach.specs.Doubts.{Doubted, doubted}
use Rattle.aa_reach.proofs.answering.open_answer.Goals as goal

pub returns : goal.returns
returns c =
    let d = c.in_ok-doubt_on.field-0 in
    record {
      from_is = c.in_ok-from.ensures;
      none = c.new-routes.ensures.items;
      told = c.new-bars.ensures.items;
      apart = c.none_told-unclean.ensures.routes;
      apart_told = c.none_told-unclean.ensures.bars;
      apart_decided = c.none_told-unclean.ensures.doubts;
      doubts =
          ap (map doubted) (c.in_ok-push.ensures.items ∙ ap (λ (ds : List Doubt). ds ++ d ∷ []) c.new-doubts.ensures.items)
          ∙ ap (λ (x : Doubted). x ∷ []) c.in_ok-doubt_on.ensures;
    }
