-- Units that are parted one after another.
use Rattle.std.proofs.Common.{◌≡◌, ℕ, ◌+◌, ◌<◌, ◌≤◌, List, [], ◌∷◌, ◌++◌, length, take, flat_map, get_or, ap, refl, sym, subst, ◌∙◌}
use Rattle.std.specs.List.{AllZip}
use Rattle.std.proofs.lemmas.List.{take_all, take_more, append-nil}
use Rattle.std.proofs.lemmas.Grind.{flat_map-append}
use Rattle.std.proofs.lemmas.Slice.Zip.{all_zipped_more}
use Rattle.aa_files.specs.declared.unit.Unit as unit
use Rattle.aa_skipping.specs.declared.unread.Unread.{Unread}
use Rattle.aa_skipped.specs.declared.skipped.Skipped.{Skipped}
use Rattle.aa_skipped.specs.declared.skipped.Found.{Found}
use Rattle.aa_skipped.specs.Sorting.{units_in, skipped_in}
use Rattle.aa_skipped.specs.Heads.{AreHeadsOf}
use Rattle.aa_skipped.specs.Repeated.{IsParted, ArePartedBy, AreParted}

pub none_parted : (read : List Unread) (skipped : List Skipped) → ArePartedBy read skipped [] [] []
none_parted read skipped = record { founds = []; parted = tt; kept_are = refl; aside_are = refl }

-- one more of what is put together
more_of : {A : Type 0} (f : Found → List A) (founds : List Found) (one : Found) (before after : List A) → before ≡ flat_map f founds → after ≡ before ++ f one → after ≡ flat_map f (founds ++ one ∷ [])
more_of f founds one before after is put =
    put ∙ (ap (λ l. l ++ f one) is ∙ (ap (λ l. flat_map f founds ++ l) (sym (append-nil (f one))) ∙ sym (flat_map-append f founds (one ∷ []))))

-- the next unit is parted
pub parted_next : (read : List Unread) (skipped : List Skipped) (done next : List unit.Unit) (u : unit.Unit) (kept more : List unit.Unit) (aside others : List Skipped) (f : Found)
    → next ≡ done ++ u ∷ [] → more ≡ kept ++ units_in f → others ≡ aside ++ skipped_in f → IsParted read skipped u f
    → ArePartedBy read skipped done kept aside → ArePartedBy read skipped next more others
parted_next read skipped done next u kept more aside others f is_next put_unit put_skipped is are = record {
  founds = are.founds ++ f ∷ [];
  parted = subst (λ (us : List unit.Unit). AllZip (IsParted read skipped) us (are.founds ++ f ∷ [])) (sym is_next) (all_zipped_more (IsParted read skipped) done are.founds u f are.parted is);
  kept_are = more_of units_in are.founds f kept more are.kept_are put_unit;
  aside_are = more_of skipped_in are.founds f aside others are.aside_are put_skipped;
}

-- the heads of one more unit are known
pub heads_next : (units : List unit.Unit) (i : ℕ) (u : unit.Unit) (read more : List Unread) (r : Unread) → i < length units → u ≡ get_or units i u → more ≡ read ++ r ∷ []
    → AreHeadsOf u r → AllZip AreHeadsOf (take i units) read → AllZip AreHeadsOf (take (i + 1) units) more
heads_next units i u read more r lt item put is are =
    rw (take_more units i u lt ∙ ap (λ (x : unit.Unit). take i units ++ x ∷ []) (sym item), put) (all_zipped_more AreHeadsOf (take i units) read u r are is)

pub heads_all : (units : List unit.Unit) (i : ℕ) (read : List Unread) → length units ≤ i → AllZip AreHeadsOf (take i units) read → AllZip AreHeadsOf units read
heads_all units i read le are = subst (λ (us : List unit.Unit). AllZip AreHeadsOf us read) (take_all i units le) are

-- the same by slices of them
pub parted_by : (units lent kept : List unit.Unit) (skipped k aside all : List Skipped) (read r : List Unread) → lent ≡ units → r ≡ read → k ≡ skipped → all ≡ skipped ++ aside
    → AllZip AreHeadsOf lent read → ArePartedBy r k units kept aside → AreParted units skipped kept all
parted_by units lent kept skipped k aside all read r is_lent is_read is_skipped all_are heads parted = record {
  read = read;
  heads = subst (λ (us : List unit.Unit). AllZip AreHeadsOf us read) is_lent heads;
  aside = aside;
  parted = subst (λ (ks : List Skipped). ArePartedBy read ks units kept aside) is_skipped (subst (λ (us : List Unread). ArePartedBy us k units kept aside) is_read parted);
  all_are = all_are;
}
