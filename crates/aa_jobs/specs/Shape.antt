-- The shape of a job: what its JSON value must be, and what stands in it.
-- Source: own.
use Rattle.std.specs.Prelude.{ℕ, ◌&&◌, List, [], ◌∷◌, codes, Bool, true, false, Option, Some, None, option_and_then, option_map, is_some, if◌then◌else◌, Result, Ok, Err}
use Rattle.std.specs.List.{list_any}
use Rattle.std.specs.Str.{bytes_eq}
use Rattle.serde_json.specs.Data.{Data, Items, no_items, item, Members, no_members, member}
use Rattle.serde_json.specs.Find.{get, as_str, as_bool, as_number, as_u64, as_array, as_object}
use Rattle.aa_jobs.specs.declared.job_fault.JobFault.{JobFault}
use Rattle.aa_jobs.specs.declared.job_fault.JobFault.TheVariants.{BadShape}
use Rattle.aa_words.specs.declared.include.Include.{Include}
use Rattle.aa_jobs.specs.declared.shape.Part.{Part}
use Rattle.aa_jobs.specs.declared.shape.Part.TheVariants.{Whole, OfTask, OfFile, OfLink, OfExec, OfCap, OfNet, OfChange, OfReload}
use Rattle.aa_jobs.specs.Steps.{◌>>=◌, needed, only_if, each}
use Rattle.aa_jobs.specs.Written.{WrittenItem, exit_item, file_item, link_item, exec_item, cap_item, net_item, change_item, reload_item, WrittenTask, WrittenEvent, WrittenJob}

-- ---- keys

-- the keys that an object of a job may have
abbrev pub keys_of : Part → List (List ℕ)
keys_of Whole = codes "policy" ∷ codes "policies" ∷ codes "includes" ∷ codes "tasks" ∷ codes "states" ∷ codes "capacity" ∷ codes "events" ∷ []
keys_of OfTask = codes "label" ∷ codes "policy" ∷ codes "requests" ∷ []
keys_of OfFile = codes "file" ∷ codes "mask" ∷ codes "owned" ∷ []
keys_of OfLink = codes "link" ∷ codes "to" ∷ codes "owned" ∷ []
keys_of OfExec = codes "exec" ∷ codes "owned" ∷ []
keys_of OfCap = codes "cap" ∷ []
keys_of OfNet = codes "net" ∷ codes "type" ∷ []
keys_of OfChange = codes "change" ∷ []
keys_of OfReload = codes "reload" ∷ []

-- an object of that part may have the key
abbrev pub is_key : Part → List ℕ → Bool
is_key part k = list_any (λ n. bytes_eq k n) (keys_of part)

-- each key is known
abbrev pub has_only : Part → Members → Bool
has_only part no_members = true
has_only part (member k d ms) = is_key part k && has_only part ms

-- an object of that part may have these members
abbrev pub fits_members : Part → Option Members → Bool
fits_members part None = false
fits_members part (Some ms) = has_only part ms

-- an object whose keys are all known
abbrev pub fits : Part → Data → Bool
fits part d = fits_members part (as_object d)

-- ---- members

-- the values of a list
abbrev pub data_list : Items → List Data
data_list no_items = []
data_list (item d ds) = d ∷ data_list ds

-- the members of an object, in order
abbrev pub entry_list : Members → List (List ℕ × Data)
entry_list no_members = []
entry_list (member k d ms) = (k, d) ∷ entry_list ms

-- a value that has to be a text
abbrev pub text_in : Data → Result (List ℕ) JobFault
text_in d = needed BadShape (as_str d)

-- a number that is held as one of 64 bits without a sign
abbrev pub number_in : Data → Result ℕ JobFault
number_in d = needed BadShape (option_and_then as_u64 (as_number d))

-- a value that has to be a list
abbrev pub list_in : Data → Result (List Data) JobFault
list_in d = needed BadShape (option_map data_list (as_array d))

-- the text that a key has to have
abbrev pub text_at : List ℕ → Data → Result (List ℕ) JobFault
text_at k d = needed BadShape (get k d) >>= text_in

-- the number that a key has to have
abbrev pub number_at : List ℕ → Data → Result ℕ JobFault
number_at k d = needed BadShape (get k d) >>= number_in

-- the list that a key has to have
abbrev pub list_at : List ℕ → Data → Result (List Data) JobFault
list_at k d = needed BadShape (get k d) >>= list_in

-- true or false, or false where nothing stands
abbrev pub flag_from : Option Data → Result Bool JobFault
flag_from None = Ok false
flag_from (Some d) = needed BadShape (as_bool d)

-- a number, or that one where nothing stands
abbrev pub number_from : ℕ → Option Data → Result ℕ JobFault
number_from default None = Ok default
number_from default (Some d) = number_in d

-- ---- items

-- a request for a file as it is written
unfoldable pub file_shape : Data → Result WrittenItem JobFault
file_shape d = do
  _ ← only_if (fits OfFile d) BadShape
  path ← text_at (codes "file") d
  letters ← text_at (codes "mask") d
  owned ← flag_from (get (codes "owned") d)
  Ok (file_item path letters owned)

-- a request for a link as it is written
unfoldable pub link_shape : Data → Result WrittenItem JobFault
link_shape d = do
  _ ← only_if (fits OfLink d) BadShape
  path ← text_at (codes "link") d
  target ← text_at (codes "to") d
  owned ← flag_from (get (codes "owned") d)
  Ok (link_item path target owned)

-- a request to execute as it is written
unfoldable pub exec_shape : Data → Result WrittenItem JobFault
exec_shape d = do
  _ ← only_if (fits OfExec d) BadShape
  path ← text_at (codes "exec") d
  owned ← flag_from (get (codes "owned") d)
  Ok (exec_item path owned)

-- a request for a capability as it is written
unfoldable pub cap_shape : Data → Result WrittenItem JobFault
cap_shape d = do
  _ ← only_if (fits OfCap d) BadShape
  name ← text_at (codes "cap") d
  Ok (cap_item name)

-- a request for a socket as it is written
unfoldable pub net_shape : Data → Result WrittenItem JobFault
net_shape d = do
  _ ← only_if (fits OfNet d) BadShape
  family ← text_at (codes "net") d
  kind ← text_at (codes "type") d
  Ok (net_item family kind)

-- a request to change the profile as it is written
unfoldable pub change_shape : Data → Result WrittenItem JobFault
change_shape d = do
  _ ← only_if (fits OfChange d) BadShape
  name ← text_at (codes "change") d
  Ok (change_item name)

-- a request to be decided by another policy as it is written
unfoldable pub reload_shape : Data → Result WrittenItem JobFault
reload_shape d = do
  _ ← only_if (fits OfReload d) BadShape
  policy ← number_at (codes "reload") d
  Ok (reload_item policy)

-- the object has the key
abbrev pub has : List ℕ → Data → Bool
has k d = is_some (get k d)

-- what an object asks for, by the key that tells its kind
unfoldable pub request_shape : Data → Result WrittenItem JobFault
request_shape d =
    if has (codes "file") d then file_shape d
    else (if has (codes "link") d then link_shape d
    else (if has (codes "exec") d then exec_shape d
    else (if has (codes "cap") d then cap_shape d
    else (if has (codes "net") d then net_shape d
    else (if has (codes "change") d then change_shape d
    else (if has (codes "reload") d then reload_shape d
    else Err BadShape))))))

-- the one text that is an item
abbrev pub word_shape : List ℕ → Result WrittenItem JobFault
word_shape word = if bytes_eq word (codes "exit") then Ok exit_item else Err BadShape

-- an item of a task: a word, or else a request
abbrev pub item_from : Option (List ℕ) → Data → Result WrittenItem JobFault
item_from None d = request_shape d
item_from (Some word) d = word_shape word

-- an item of a task as it is written
abbrev pub item_shape : Data → Result WrittenItem JobFault
item_shape d = item_from (as_str d) d

-- ---- the job

-- a task as it is written
unfoldable pub task_shape : Data → Result WrittenTask JobFault
task_shape d = do
  _ ← only_if (fits OfTask d) BadShape
  label ← text_at (codes "label") d
  policy ← number_from 0 (get (codes "policy") d)
  requests ← list_at (codes "requests") d
  items ← each item_shape requests
  Ok (record { label = label; policy = policy; items = items })

-- a list of two: a task's number, and the event's name
abbrev pub pair_shape : List Data → Result WrittenEvent JobFault
pair_shape [] = Err BadShape
pair_shape (task ∷ []) = Err BadShape
pair_shape (task ∷ name ∷ []) = number_in task >>= λ n. text_in name >>= λ word. Ok (record { task = n; name = word })
pair_shape (task ∷ name ∷ more ∷ others) = Err BadShape

-- an event as it is written
unfoldable pub event_shape : Data → Result WrittenEvent JobFault
event_shape d = list_in d >>= pair_shape

-- an include as it is written
unfoldable pub include_shape : List ℕ × Data → Result Include JobFault
include_shape entry = do
  text ← text_in entry.1
  Ok (record { name = entry.0; text = text })

-- the events, or none where the key is missing
abbrev pub events_from : Option Data → Result (List WrittenEvent) JobFault
events_from None = Ok []
events_from (Some d) = list_in d >>= each event_shape

-- the members of an object stand in the order of their keys' bytes
abbrev pub includes_in : Data → Result (List Include) JobFault
includes_in d = needed BadShape (option_map entry_list (as_object d)) >>= each include_shape

-- the includes, or none where the key is missing
abbrev pub includes_from : Option Data → Result (List Include) JobFault
includes_from None = Ok []
includes_from (Some d) = includes_in d

-- the one text of policy, or the texts of policies, and not both
abbrev pub policies_from : Option Data → Option Data → Result (List (List ℕ)) JobFault
policies_from None None = Err BadShape
policies_from (Some one) None = text_in one >>= λ policy. Ok (policy ∷ [])
policies_from None (Some several) = list_in several >>= each text_in
policies_from (Some one) (Some several) = Err BadShape

-- a job as it is written
unfoldable pub job_shape : Data → Result WrittenJob JobFault
job_shape d = do
  _ ← only_if (fits Whole d) BadShape
  policies ← policies_from (get (codes "policy") d) (get (codes "policies") d)
  includes ← includes_from (get (codes "includes") d)
  list ← list_at (codes "tasks") d
  tasks ← each task_shape list
  states ← number_from 4096 (get (codes "states") d)
  capacity ← number_from 1 (get (codes "capacity") d)
  events ← events_from (get (codes "events") d)
  Ok (record { policies = policies; several = has (codes "policies") d; includes = includes; tasks = tasks; states = states; capacity = capacity; events = events })
