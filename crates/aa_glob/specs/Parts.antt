-- The pieces that the code has.
use Rattle.aa_glob.specs.declared.pieces.Part.{Part}
use Rattle.aa_glob.specs.declared.pieces.Part.TheVariants.{Plain as PlainPart, Use as UsePart, Broken as BrokenPart}
use Rattle.aa_glob.specs.Pieces.{Piece, Plain, Use, Broken}

-- a piece without where it lies in memory
abbrev pub piece_of : Part → Piece
piece_of (PlainPart b) = Plain b
piece_of (UsePart name) = Use name.now
piece_of BrokenPart = Broken
