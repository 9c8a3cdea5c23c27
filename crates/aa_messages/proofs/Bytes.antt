-- The bytes that values are, one after another.
use Rattle.std.proofs.Common.{◌≡◌, ℕ, ◌<◌, ◌≤◌, ◌-◌, List, [], ◌∷◌, ◌++◌, length, get_or, take, drop, Option, Some, None, option_map, refl, sym, ap, ◌∙◌, append_assoc, arith}
use Rattle.std.proofs.lemmas.List.{append-nil, take_all}
use Rattle.serde_json.specs.View.{view, items_view}
use Rattle.serde_json.specs.declared.value.Value.{Value}
use Rattle.aa_messages.specs.Journal.{byte_in, put_before, bytes_of}

-- bytes before others, where those are there
abbrev pub behind : List ℕ → Option (List ℕ) → Option (List ℕ)
behind before bytes = option_map (λ more. before ++ more) bytes

pub behind_none : (bytes : Option (List ℕ)) → behind [] bytes ≡ bytes
behind_none None = refl
behind_none (Some bs) = refl

moved : (before : List ℕ) (b : ℕ) (bytes : Option (List ℕ)) → behind (before ++ b ∷ []) bytes ≡ behind before (put_before (Some b) bytes)
moved before b None = refl
moved before b (Some bs) = ap Some (append_assoc before (b ∷ []) bs)

-- the first value is a byte, so it stands before those of the others
pub byte_there : (rest : List Value) (x : Value) (b : ℕ) (before after : List ℕ) (whole : Option (List ℕ)) → 1 ≤ length rest → x ≡ get_or rest 0 x → Some b ≡ byte_in (view x)
    → after ≡ before ++ b ∷ [] → behind before (bytes_of (items_view rest)) ≡ whole → behind after (bytes_of (items_view (take (length rest - 1) (drop 1 rest)))) ≡ whole
unfolding bytes_of
byte_there [] x b before after whole some is byte pushed so = absurd (omega (arith, some))
byte_there (y ∷ ys) x b before after whole some is byte pushed so =
    ap (λ (vs : List Value). behind after (bytes_of (items_view vs))) (take_all (length (y ∷ ys) - 1) ys (omega arith))
    ∙ ap (λ (l : List ℕ). behind l (bytes_of (items_view ys))) pushed
    ∙ moved before b (bytes_of (items_view ys))
    ∙ ap (λ (o : Option ℕ). behind before (put_before o (bytes_of (items_view ys)))) (byte ∙ ap (λ (v : Value). byte_in (view v)) is)
    ∙ so

-- the first value is no byte, so they aren't all
pub none_there : (rest : List Value) (x : Value) (before : List ℕ) (whole : Option (List ℕ)) → 1 ≤ length rest → x ≡ get_or rest 0 x → None ≡ byte_in (view x)
    → behind before (bytes_of (items_view rest)) ≡ whole → None ≡ whole
unfolding bytes_of
none_there [] x before whole some is byte so = absurd (omega (arith, some))
none_there (y ∷ ys) x before whole some is byte so =
    ap (λ (o : Option ℕ). behind before (put_before o (bytes_of (items_view ys)))) (byte ∙ ap (λ (v : Value). byte_in (view v)) is) ∙ so

-- at the end all are found
pub all_there : (rest : List Value) (before : List ℕ) (whole : Option (List ℕ)) → length rest < 1 → behind before (bytes_of (items_view rest)) ≡ whole → Some before ≡ whole
unfolding bytes_of
all_there [] before whole end so = ap Some (sym (append-nil before)) ∙ so
all_there (y ∷ ys) before whole end so = absurd (omega (arith, end))
