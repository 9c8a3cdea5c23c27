-- Items and masks as they mostly stand.
use Rattle.std.proofs.Common.{◌≡◌, ℕ, List, [], ◌∷◌, Bor, false, Ok, refl, sym, subst}
use Rattle.serde_json.specs.Data.{object}
use Rattle.aa_jobs.specs.declared.keyed.ItemKey.{ItemKey}
use Rattle.aa_jobs.specs.declared.keyed.ItemKey.TheVariants as key
use Rattle.aa_jobs.specs.declared.keyed.ItemValue.{ItemValue}
use Rattle.aa_jobs.specs.declared.keyed.ItemValue.TheVariants as value
use Rattle.aa_jobs.specs.Items.{item_object}
use Rattle.aa_jobs.specs.Shape.{file_shape, request_shape}
use Rattle.aa_jobs.specs.Written.{file_item}

-- two members stand for the file at a path, with these letters
abbrev IsPlain : ItemKey → ItemValue → ItemKey → ItemValue → Bor (List ℕ) → Bor (List ℕ) → Type 0
IsPlain one path other letters p l =
    request_shape (object (item_object ((one, path) ∷ (other, letters) ∷ []))) ≡ Ok (file_item p.now l.now false)

path_then_letters : (p l : Bor (List ℕ)) → IsPlain key.File (value.Text p) key.Mask (value.Text l) p l
unfolding request_shape file_shape
path_then_letters p l = refl

-- a file's path, and then its letters
pub plain_file : (one other : ItemKey) (path letters : ItemValue) (p l : Bor (List ℕ)) → one ≡ key.File
    → path ≡ value.Text p → other ≡ key.Mask → letters ≡ value.Text l → IsPlain one path other letters p l
plain_file one other path letters p l is_file is_path is_mask is_letters =
    subst (λ (k : ItemKey). IsPlain k path other letters p l) (sym is_file)
    (subst (λ (v : ItemValue). IsPlain key.File v other letters p l) (sym is_path)
    (subst (λ (k : ItemKey). IsPlain key.File (value.Text p) k letters p l) (sym is_mask)
    (subst (λ (v : ItemValue). IsPlain key.File (value.Text p) key.Mask v p l) (sym is_letters) (path_then_letters p l))))
