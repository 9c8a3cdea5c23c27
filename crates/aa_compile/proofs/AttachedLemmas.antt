-- The answers of lists are the attached profiles.
use Rattle.std.proofs.Common.{◌≡◌, ℕ, ◌+◌, ◌<◌, length, take, get_or, List, [], ◌∷◌, ◌++◌, map, Option, Some, None, refl, ap, ◌∙◌, subst}
use Rattle.std.specs.List.{filter, slice_get}
use Rattle.std.specs.Option.{option_map, option_map_or}
use Rattle.std.proofs.lemmas.List.{append-nil, take_more}
use Rattle.std.proofs.lemmas.List.Concat.{flat_map-append}
use Rattle.std.proofs.lemmas.Option.{slice_get-map, slice_get-get_or}
use Rattle.aa_pattern.specs.declared.pattern.Pattern.{Pattern}
use Rattle.aa_model.specs.declared.policy.Profile.{Profile}
use Rattle.aa_pattern.specs.Matching.{is_match}
use Rattle.aa_auto.specs.Tables.{IsAutomaton, ListsMatching, list_at, list_number, place_of}
use Rattle.aa_compile.specs.declared.attach.Attachment.{Attachment}
use Rattle.aa_compile.specs.Gathered.{picked}
use Rattle.aa_compile.specs.Attached.{AnswerTable, answers_by, attached_by, attachment_by, attachment_of, at_number, attachments_at, attachments_by, pattern_of, Attaches}
use Rattle.aa_compile.proofs.Pickeds.{picked-map}
use Rattle.aa_compile.proofs.Hits.{hits_at}

pub pattern_parts : (n : ℕ) (ps : List Pattern) → map pattern_of (map (at_number n) ps) ≡ ps
pattern_parts n [] = refl
pattern_parts n (p ∷ ps) = ap (λ l. p ∷ l) (pattern_parts n ps)

-- the attachments of one more profile
pub attachments_more : (profiles : List Profile) (ns : List ℕ) (i : ℕ) → i < length ns
    → attachments_by profiles (take (i + 1) ns) ≡ attachments_by profiles (take i ns) ++ map (at_number (get_or ns i 0))
    (attachments_at profiles (get_or ns i 0))
attachments_more profiles ns i lt =
    ap (attachments_by profiles) (take_more ns i 0 lt)
    ∙ flat_map-append (λ n. map (at_number n) (attachments_at profiles n)) (take i ns) (get_or ns i 0 ∷ [])
    ∙ ap (λ l. attachments_by profiles (take i ns) ++ l) (append-nil (map (at_number (get_or ns i 0)) (attachments_at profiles (get_or ns i 0))))

pub answers_are : (profiles : List Profile) (numbers : List ℕ) (patterns : List Pattern) (as' : List Attachment) (t : AnswerTable)
    → patterns ≡ map pattern_of (attachments_by profiles numbers) → as' ≡ map attachment_of (attachments_by profiles numbers)
    → IsAutomaton patterns t.table → t.answers ≡ answers_by as' t.table.lists → Attaches profiles numbers t
answers_are profiles numbers patterns as' t flat are auto answers path text =
    let hits = attachments_by profiles numbers in
    let place = place_of t.table path in
    let number = list_number t.table place in
    let list = list_at t.table place in
    let lists : ListsMatching (map pattern_of hits) path list = subst (λ ps. ListsMatching ps path list) flat (auto.matching path text) in
    let stored : slice_get t.answers number ≡ Some (attached_by (picked as' list)) =
    ap (λ l. slice_get l number) answers ∙ slice_get-map (λ (l : List ℕ). attached_by (picked as' l)) t.table.lists number
    ∙ ap (option_map (λ (l : List ℕ). attached_by (picked as' l))) (slice_get-get_or t.table.lists number [] (auto.numbered path text)) in
    let marked : picked as' list ≡ map attachment_of (filter (λ h. is_match h.1.items.items path) hits) =
    ap (λ l. picked l list) are ∙ picked-map attachment_of hits list ∙ ap (map attachment_of) (hits_at hits path list lists) in
    ap (λ o. option_map_or (λ (a : Option ℕ). a) o None) stored ∙ ap attached_by marked

pub attachment_parts : (n : ℕ) (ps : List Pattern) → map attachment_of (map (at_number n) ps) ≡ map (attachment_by n) ps
attachment_parts n [] = refl
attachment_parts n (p ∷ ps) = ap (λ l. attachment_by n p ∷ l) (attachment_parts n ps)
