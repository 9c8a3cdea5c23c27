use Rattle.std.proofs.Common.{◌≡◌, false, true, sym, ap, subst, ◌∙◌, Result, List}
use Rattle.json.specs.Reads.{token_of}
use Rattle.json.specs.Token.{Token}
use Rattle.std.specs.Option.{is_some}
use Rattle.serde_json.specs.Read.{number_of}
use Rattle.aa_jobs.specs.declared.job_fault.JobFault.{JobFault}
use Rattle.aa_jobs.specs.Steps.{Gives}
use Rattle.aa_jobs.proofs.Turns.{past, past_array, past_bad, past_boolean, past_end_array, past_end_object, past_key, past_null, past_number, past_object, past_string}
use Rattle.aa_jobs.proofs.stream.pass.Goals as goal

pub returns-in-Null : goal.returns-in-Null
returns-in-Null c = ap (λ t. past c.args.depth (token_of t) c.args.reader.now) c.in-Null.is ∙ past_null c.args.depth c.args.reader.now

pub returns-in-Bool : goal.returns-in-Bool
returns-in-Bool c = ap (λ t. past c.args.depth (token_of t) c.args.reader.now) c.in-Bool.is ∙ past_boolean c.args.depth _ c.args.reader.now

pub returns-in-String : goal.returns-in-String
returns-in-String c = ap (λ t. past c.args.depth (token_of t) c.args.reader.now) c.in-String.is ∙ past_string c.args.depth _ c.args.reader.now

pub returns-then-is_number_in_range : goal.returns-then-is_number_in_range
returns-then-is_number_in_range c =
    let fits : is_some (number_of c.in-Number.digits.now) ≡ true = ap (λ d. is_some (number_of d)) (sym c.as_bytes.ensures.value) ∙ sym c.if-is_number_in_range.ensures in
    ap (λ t. past c.args.depth (token_of t) c.args.reader.now) c.in-Number.is ∙ past_number c.args.depth c.in-Number.digits.now c.args.reader.now true fits

pub returns-else-is_number_in_range : goal.returns-else-is_number_in_range
returns-else-is_number_in_range c =
    let fits : is_some (number_of c.in-Number.digits.now) ≡ false = ap (λ d. is_some (number_of d)) (sym c.as_bytes.ensures.value) ∙ sym c.if-is_number_in_range.ensures in
    ap (λ t. past c.args.depth (token_of t) c.args.reader.now) c.in-Number.is ∙ past_number c.args.depth c.in-Number.digits.now c.args.reader.now false fits

pub returns-in-BeginArray : goal.returns-in-BeginArray
returns-in-BeginArray c =
    subst (λ (g : Result (List Token) JobFault). Gives (λ _. c.pass_items.new.reader) c.pass_items.result g)
    (sym (ap (λ t. past c.args.depth (token_of t) c.args.reader.now) c.in-BeginArray.is
    ∙ past_array c.args.depth c.args.reader.now c.requires)) c.pass_items.ensures

pub returns-in-BeginObject : goal.returns-in-BeginObject
returns-in-BeginObject c =
    subst (λ (g : Result (List Token) JobFault). Gives (λ _. c.pass_members.new.reader) c.pass_members.result g)
    (sym (ap (λ t. past c.args.depth (token_of t) c.args.reader.now) c.in-BeginObject.is
    ∙ past_object c.args.depth c.args.reader.now c.requires)) c.pass_members.ensures

pub returns-in-EndArray : goal.returns-in-EndArray
returns-in-EndArray c = ap (λ t. past c.args.depth (token_of t) c.args.reader.now) c.in-EndArray.is ∙ past_end_array c.args.depth c.args.reader.now

pub returns-in-EndObject : goal.returns-in-EndObject
returns-in-EndObject c = ap (λ t. past c.args.depth (token_of t) c.args.reader.now) c.in-EndObject.is ∙ past_end_object c.args.depth c.args.reader.now

pub returns-in-Key : goal.returns-in-Key
returns-in-Key c = ap (λ t. past c.args.depth (token_of t) c.args.reader.now) c.in-Key.is ∙ past_key c.args.depth _ c.args.reader.now

pub returns-in-Bad : goal.returns-in-Bad
returns-in-Bad c = ap (λ t. past c.args.depth (token_of t) c.args.reader.now) c.in-Bad.is ∙ past_bad c.args.depth c.args.reader.now
