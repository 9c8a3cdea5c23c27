-- What holds of a list of requests holds of it with more behind.
use Rattle.std.proofs.Common.{◌≡◌, ℕ, ◌+◌, ◌<◌, ◌≤◌, List, [], ◌∷◌, ◌++◌, length, get_or, Bool, true, false, Contains, append_assoc, refl, sym, ap, ◌∙◌, subst, arith, ⊎_elim}
use Rattle.std.proofs.lemmas.List.{append-nil, get_or_default}
use Rattle.std.proofs.lemmas.List.Elements.{Contains-append_left, Contains-append_cases, Contains-push_cases}
use Rattle.std.proofs.lemmas.Bool.{cases_lt}
use Rattle.aa_model.specs.declared.request.Request.{Request}
use Rattle.aa_model.specs.declared.request.Request.TheVariants.{File}
use Rattle.aa_model.specs.Requests.{is_mask}
use Rattle.aa_regions.specs.declared.regions.Region.{Region}
use Rattle.aa_compile.specs.Said.{perms_of}
use Rattle.aa_representatives.specs.Representatives.{Adds, HasFiles}

pub none_in : {X : Type 0} (x : X) → Contains [] x → ⊥
none_in x c = omega (arith, c.1)

module _ (Kind : Request → Type 0) where
  pub adds_none : (rs : List Request) → Adds Kind rs rs
  adds_none rs = record { more = []; are = sym (append-nil rs); each = λ r c. absurd (none_in r c) }

  pub adds_one : (rs : List Request) (r : Request) → Kind r → Adds Kind rs (rs ++ r ∷ [])
  adds_one rs r kind = record { more = r ∷ []; are = refl; each = λ q c. ⊎_elim (λ (d : Contains [] q). absurd (none_in q d)) (λ (e : r ≡ q). subst Kind e kind) (Contains-push_cases [] r q c) }

  pub adds_both : (as' bs cs : List Request) → Adds Kind as' bs → Adds Kind bs cs → Adds Kind as' cs
  adds_both as' bs cs x y = record {
    more = x.more ++ y.more;
    are = y.are ∙ ap (λ (l : List Request). l ++ y.more) x.are ∙ append_assoc as' x.more y.more;
    each = λ r c. ⊎_elim (x.each r) (y.each r) (Contains-append_cases x.more y.more r c);
  }

  pub adds_keep : (as' bs : List Request) → Adds Kind as' bs → (r : Request) → Contains as' r → Contains bs r
  adds_keep as' bs x r c = subst (λ (l : List Request). Contains l r) (sym x.are) (Contains-append_left as' x.more r c)

  pub adds_each : (as' bs : List Request) → as' ≡ [] → Adds Kind as' bs → (r : Request) → Contains bs r → Kind r
  adds_each as' bs none x r c = x.each r (subst (λ (l : List Request). Contains l r) (x.are ∙ ap (λ (l : List Request). l ++ x.more) none) c)

abbrev file_at : List ℕ → ℕ → Bool → Request
file_at path mask owned = File (record { path = path; mask = perms_of mask; owned = owned })

-- the requests by one more mask
pub files_more : (path : List ℕ) (n : ℕ) (as' bs cs : List Request) → HasFiles path n as'
    → ((r : Request) → Contains as' r → Contains bs r) → ((r : Request) → Contains bs r → Contains cs r)
    → (is_mask n ≡ true → Contains bs (file_at path n true)) → (is_mask n ≡ true → Contains cs (file_at path n false)) → HasFiles path (n + 1) cs
files_more path n as' bs cs before one two own other mask owned lt good =
    ⊎_elim
    (λ (l : mask < n). two (file_at path mask owned) (one (file_at path mask owned) (before mask owned l good)))
    (λ (l : n ≤ mask).
    let e : n ≡ mask = omega (arith, lt, l) in
    subst (λ (m : ℕ). Contains cs (file_at path m owned)) e (both owned (subst (λ (m : ℕ). is_mask m ≡ true) (sym e) good)))
    (cases_lt mask n)
  where
    both : (owned : Bool) → is_mask n ≡ true → Contains cs (file_at path n owned)
    both true fine = two (file_at path n true) (own fine)
    both false fine = other fine

same_at : (xs : List Region) (i : ℕ) (x y : Region) → i < length xs → x ≡ get_or xs i x → get_or xs i y ≡ y → x ≡ y
same_at xs i x y lt e f = e ∙ get_or_default xs i x y lt ∙ f

-- what holds of the paths of the first regions, and of one more
pub regions_more : (xs : List Region) (i : ℕ) (x : Region) (P Q : List ℕ → Type 0) → i < length xs → x ≡ get_or xs i x → ((s : List ℕ) → P s → Q s) → Q x.witness
    → ((k : ℕ) (r : Region) → k < i → get_or xs k r ≡ r → P r.witness) → (k : ℕ) (r : Region) → k < i + 1 → get_or xs k r ≡ r → Q r.witness
regions_more xs i x P Q lt is on more before k r l e =
    ⊎_elim
    (λ (below : k < i). on r.witness (before k r below e))
    (λ (above : i ≤ k).
    let same : i ≡ k = omega (arith, l, above) in
    subst (λ (y : Region). Q y.witness) (same_at xs i x r lt is (subst (λ (n : ℕ). get_or xs n r ≡ r) (sym same) e)) more)
    (cases_lt k i)
