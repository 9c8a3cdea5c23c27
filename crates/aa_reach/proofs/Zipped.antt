-- What stands for labels or texts, one after another.
use Rattle.std.proofs.Common.{◌≡◌, ℕ, ◌+◌, ◌<◌, List, Vec, [], ◌∷◌, ◌++◌, length, take, get_or}
use Rattle.std.specs.declared.alloc.Global.{Global}
use Rattle.std.proofs.lemmas.List.{take_more}
use Rattle.std.proofs.lemmas.Slice.Zip.{all_zipped_more}
use Rattle.std.specs.List.{AllZip}
use Rattle.aa_files.specs.Texts.{texts}
use Rattle.aa_model.specs.declared.label.Label.{Label}
use Rattle.aa_reach.proofs.Names.{one_more}

-- one label more, and one item more for it
pub zipped_next : {B : Type 0} (R : Label → B → Type 0) (labels : List Label) (i : ℕ) (l d : Label) (ys more : List B) (y : B) → i < length labels
    → l ≡ get_or labels i d → more ≡ ys ++ y ∷ [] → R l y → AllZip R (take i labels) ys → AllZip R (take (i + 1) labels) more
zipped_next R labels i l d ys more y lt item is_more is are =
    rw (take_more labels i d lt, ← item, is_more) (all_zipped_more R (take i labels) ys l y are is)

-- so of texts
pub zipped_text : {B : Type 0} (R : List ℕ → B → Type 0) (words : List (Vec ℕ Global)) (i : ℕ) (word : Vec ℕ Global) (text : List ℕ)
    (ys more : List B) (y : B)
    → i < length words → word ≡ get_or words i word → text ≡ word.items → more ≡ ys ++ y ∷ [] → R text y
    → AllZip R (texts (take i words)) ys
    → AllZip R (texts (take (i + 1) words)) more
zipped_text R words i word text ys more y lt item is_text is_more is are =
    rw (one_more words i word lt item, ← is_text, is_more) (all_zipped_more R (texts (take i words)) ys text y are is)
