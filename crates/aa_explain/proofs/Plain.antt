-- What is read with places is read without them.
use Rattle.std.proofs.Common.{List, [], ◌∷◌, Option, Some, None, refl}
use Rattle.std.specs.Prelude.{flat_map}
use Rattle.aa_words.specs.Splits.{WordData}
use Rattle.aa_rules.specs.Grammar.{Production, Ending, Many, Closes}
use Rattle.aa_rules.specs.Reading.{RuleData}
use Rattle.aa_policy.specs.Bodies.{ChildData, FamilyData, PartData, Stated, Held, IsStatement, IsChild, IsBodyPart, IsProfile, IsItem, if_any, rules_in, children_in}
use Rattle.aa_explain.specs.Places.{PlacedRule, PlacedProfile, PlacedFamily, PlacedPart, IsPlacedStatement, IsPlacedChild, IsPlacedPart, IsPlacedFamily, IsPlacedItem, Stated as StatedAt, Held as HeldAt}

abbrev pub plain : Option PlacedRule → Option RuleData
plain None = None
plain (Some r) = Some r.rule

pub statement_plain : (ws : List WordData) (s : Option PlacedRule) (rest : List WordData) → IsPlacedStatement ws s rest → IsStatement ws (plain s) rest
statement_plain ws None rest h = h
statement_plain ws (Some r) rest (first, ends, stands) = stands

many_plain : {X Y : Type 0} (Is : Production X) (Js : Production Y) (Ends : Ending) → ((ws : List WordData) (x : X) (rest : List WordData) → Is ws x rest → (y : Y) × Js ws y rest)
    → (ws : List WordData) (xs : List X) (rest : List WordData) → Many Is Ends ws xs rest → (ys : List Y) × Many Js Ends ws ys rest
many_plain Is Js Ends each ws [] rest h = ([], h)
many_plain Is Js Ends each ws (x ∷ xs) rest h =
    let y = each ws x h.0 h.1 in
    let ys = many_plain Is Js Ends each h.0 xs rest h.2 in
    (y.0 ∷ ys.0, (h.0, y.1, ys.1))

pub child_plain : (ws : List WordData) (c : PlacedProfile) (rest : List WordData) → IsPlacedChild ws c rest → (child : ChildData) × IsChild ws child rest
child_plain ws c rest h =
    let ss = many_plain IsPlacedStatement IsStatement Closes (λ vs s r b. (plain s, statement_plain vs s r b)) h.after h.statements rest h.body_stands in
    (record { head = c.head; rules = flat_map if_any ss.0 }, record { after = h.after; statements = ss.0; head_stands = h.head_stands; body_stands = ss.1; rules_are = refl })

pub part_plain : (ws : List WordData) (p : PlacedPart) (rest : List WordData) → IsPlacedPart ws p rest → (part : PartData) × IsBodyPart ws part rest
part_plain ws (StatedAt s) rest h = (Stated (plain s), statement_plain ws s rest h)
part_plain ws (HeldAt c) rest h = let child = child_plain ws c rest h in (Held child.0, child.1)

family_plain : (ws : List WordData) (f : PlacedFamily) (rest : List WordData) → IsPlacedFamily ws f rest → (family : FamilyData) × IsProfile ws family rest
family_plain ws f rest h =
    let ps = many_plain IsPlacedPart IsBodyPart Closes part_plain h.after h.parts rest h.body_stands in (
      record { head = f.own.head; rules = flat_map rules_in ps.0; children = flat_map children_in ps.0 },
      record { after = h.after; parts = ps.0; head_stands = h.head_stands; body_stands = ps.1; rules_are = refl; children_are = refl },
    )

pub item_plain : (ws : List WordData) (i : Option PlacedFamily) (rest : List WordData) → IsPlacedItem ws i rest → (item : Option FamilyData) × IsItem ws item rest
item_plain ws None rest h = (None, h)
item_plain ws (Some f) rest h = let family = family_plain ws f rest h in (Some family.0, family.1)
