-- Numbers in few bytes.
use Rattle.std.specs.Prelude.{ℕ, List}
use Rattle.aa_auto.specs.declared.numbers.Kept.{Kept}
use Rattle.aa_auto.specs.declared.numbers.Kept.TheVariants.{One, Two, Four}

-- the numbers, however many bytes each takes
abbrev pub numbers_in : Kept → List ℕ
numbers_in (One numbers) = numbers.items
numbers_in (Two numbers) = numbers.items
numbers_in (Four numbers) = numbers.items

-- the largest number that fits
abbrev pub most_in : Kept → ℕ
most_in (One _) = 255
most_in (Two _) = 65535
most_in (Four _) = 4294967295
