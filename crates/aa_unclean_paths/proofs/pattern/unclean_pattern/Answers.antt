use Rattle.std.proofs.Common.{refl}
use Rattle.aa_pattern.specs.declared.item.Item.{Choice}
use Rattle.aa_unclean_paths.proofs.Telling.{tells_by, three}
use Rattle.aa_unclean_paths.proofs.pattern.unclean_pattern.Goals as goal

pub returns-clause-tells : goal.returns-clause-tells
returns-clause-tells c =
    tells_by c.in_ok-names.names c.in_ok-behind.behind
    c.new-empty.result c.in_ok-dot.dot c.in_ok-dots.dots c.in_ok-within.within c.in_ok-last_dot.last_dot c.in_ok-last_dots.last_dots
    c.in_ok-names.ensures.items c.new-empty.ensures.items c.in_ok-dot.ensures.items c.in_ok-dots.ensures.items
    c.in_ok-behind.ensures.items c.in_ok-within.ensures.items c.in_ok-last_dot.ensures.items c.in_ok-last_dots.ensures.items
    (record { items = c.in_ok-items.items }) c.in_ok-items.ensures.items

pub returns-clause-is : goal.returns-clause-is
returns-clause-is c = record {
  name = Choice c.in_ok-names.names;
  rest = Choice c.in_ok-behind.behind;
  names = (
    c.in_ok-names.names,
    refl,
    three c.in_ok-names.names c.new-empty.result c.in_ok-dot.dot c.in_ok-dots.dots _ _ _
        c.in_ok-names.ensures.items c.new-empty.ensures.items c.in_ok-dot.ensures.items c.in_ok-dots.ensures.items,
  );
  ends = (
    c.in_ok-behind.behind,
    refl,
    three c.in_ok-behind.behind c.in_ok-within.within c.in_ok-last_dot.last_dot c.in_ok-last_dots.last_dots _ _ _
        c.in_ok-behind.ensures.items c.in_ok-within.ensures.items c.in_ok-last_dot.ensures.items c.in_ok-last_dots.ensures.items,
  );
  items = c.in_ok-items.ensures.items;
}
