-- What the code holds while it reads, as what stands in the job.
use Rattle.std.specs.Prelude.{ℕ, List, map}
use Rattle.std.specs.Borrow.{Bor}
use Rattle.aa_model.specs.declared.request.Request.TheVariants as requests
use Rattle.aa_jobs.specs.declared.job.Work.{Work}
use Rattle.aa_jobs.specs.declared.job.Work.TheVariants.{Ask, Exit}
use Rattle.aa_jobs.specs.declared.raw.KeptWork.{KeptWork}
use Rattle.aa_jobs.specs.declared.raw.KeptWork.TheVariants as kept
use Rattle.aa_jobs.specs.declared.raw.RawItem.{RawItem}
use Rattle.aa_jobs.specs.declared.raw.RawItem.TheVariants as raw
use Rattle.aa_jobs.specs.declared.raw.RawItems.{RawItems}
use Rattle.aa_jobs.specs.declared.raw.RawTask.{RawTask}
use Rattle.aa_jobs.specs.declared.raw.RawEvent.{RawEvent}
use Rattle.aa_jobs.specs.declared.raw.RawJob.{RawJob}
use Rattle.aa_jobs.specs.Made.{MadeItems, MadeTask, MadeEvent, MadeJob}
use Rattle.aa_jobs.specs.Written.{WrittenItem, exit_item, file_item, link_item, exec_item, cap_item, net_item, change_item, reload_item}

-- an item of a task, without where it lies in memory
abbrev pub raw_item : RawItem → WrittenItem
raw_item raw.Exit = exit_item
raw_item (raw.File owned path letters) = file_item path.now letters.now owned
raw_item (raw.Link owned path target) = link_item path.now target.now owned
raw_item (raw.Exec owned path) = exec_item path.now owned
raw_item (raw.Cap name) = cap_item name.now
raw_item (raw.Net family kind) = net_item family.now kind.now
raw_item (raw.Change name) = change_item name.now
raw_item (raw.Reload policy) = reload_item policy

-- what is kept of an item, as what it asks
abbrev pub kept_work : KeptWork → Work
kept_work kept.Exit = Exit
kept_work (kept.File f) = Ask (requests.File f)
kept_work (kept.Link l) = Ask (requests.Link l)
kept_work (kept.Exec e) = Ask (requests.Exec e)
kept_work (kept.Cap c) = Ask (requests.Cap c)
kept_work (kept.Net f k) = Ask (requests.Net f k)
kept_work (kept.Change n) = Ask (requests.Change n)
kept_work (kept.Reload p) = Ask (requests.Reload p)

-- what the items of a task ask, without where it lies in memory
abbrev pub raw_items : RawItems → MadeItems
raw_items i = record { works = map kept_work i.works.items; are_good = i.are_good }

-- a task, without where it lies in memory
abbrev pub raw_task : RawTask → MadeTask
raw_task t = record { label = t.label; policy = t.policy; items = raw_items t.items }

-- an event, without where it lies in memory
abbrev pub raw_event : RawEvent → MadeEvent
raw_event e = record { task = e.task; name = e.name }

-- a text, without where it lies in memory
abbrev pub raw_text : Bor (List ℕ) → List ℕ
raw_text s = s.now

-- a job, without where it lies in memory
abbrev pub raw_job : RawJob → MadeJob
raw_job j = record {
  policies = j.policies.items;
  several = j.several;
  includes = j.includes.items;
  tasks = map raw_task j.tasks.items;
  states = j.states;
  capacity = j.capacity;
  events = map raw_event j.events.items;
}
