-- What a line is marked with.
-- Source: own.
use Rattle.std.specs.Prelude.{ℕ, List, ◌++◌, codes}
use Rattle.aa_page.specs.declared.mark.Mark.{Mark}
use Rattle.aa_page.specs.declared.mark.Mark.TheVariants.{Gain, Loss, Other, PassedOver, Old, New}

-- the class by which its looks are told
abbrev pub class_of : Mark → List ℕ
class_of Gain = codes "gain"
class_of Loss = codes "loss"
class_of Other = codes "other"
class_of PassedOver = codes "passed"
class_of Old = codes "old"
class_of New = codes "new"

-- its sign
abbrev pub sign_of : Mark → List ℕ
sign_of Gain = codes "+"
sign_of Loss = codes "-"
sign_of Other = codes "~"
sign_of PassedOver = codes "?"
sign_of Old = codes "-"
sign_of New = codes "+"

-- its word
abbrev pub word_of : Mark → List ℕ
word_of Gain = codes "gain"
word_of Loss = codes "loss"
word_of Other = codes "other"
word_of PassedOver = codes "passed over"
word_of Old = codes "OLD"
word_of New = codes "NEW"

-- sign and word
unfoldable pub mark_text : Mark → List ℕ
mark_text m = codes "<b>" ++ sign_of m ++ codes " " ++ word_of m ++ codes "</b> "
