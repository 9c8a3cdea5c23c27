use Rattle.std.proofs.Common.{◌≡◌, ◌∙◌, ◌-◌, ◌++◌, ◌∷◌, [], suc, length, List, ap, sym, subst, append_assoc, arith}
use Rattle.std.proofs.lemmas.List.{append-nil, length-append}
use Rattle.aa_files.specs.Texts.{slices}
use Rattle.aa_text.specs.declared.fault.FaultReport.{FaultReport}
use Rattle.aa_faults.specs.Further.{IsMended, AreFurther, Enough, NoMore, Next}
use Rattle.aa_faults.proofs.faults.further_faults.Goals as goal

pub faults-preserved : goal.faults-preserved
faults-preserved c = λ others far.
    let folders = slices c.args.folders.now in
    let told = c.faults.told.items in
    let first = c.in_ok-describe-in-Some.field-0 in
    let pushed = c.in_ok-push-in-Some.ensures.items in
    let left = c.args.most - length c.push.new.self.items in
    let mended = subst (λ n. IsMended c.args.states c.faults.unit c.faults.fault n c.next_fault.new.unit) c.in-Some.is c.in_ok-next.ensures in
    let next = Next left c.faults.unit c.next_fault.new.unit c.faults.fault c.in-Some.next first others mended c.in_ok-describe-in-Some.ensures far in
    let one : suc left ≡ c.args.most - length told = omega (arith, length-append told (first ∷ []), ap length pushed) in
    let from_here = subst (λ n. AreFurther folders c.args.states n c.faults.unit c.faults.fault (first ∷ others)) one next in
    let same : told ++ (first ∷ others) ≡ c.push.new.self.items ++ others = sym (append_assoc told (first ∷ []) others) ∙ ap (λ (l : List FaultReport). l ++ others) (sym pushed) in
    subst (λ l. AreFurther folders c.args.states c.args.most c.args.unit c.args.fault l) same (c.faults.invariant (first ∷ others) from_here)

pub returns-in-None : goal.returns-in-None
returns-in-None c =
    let folders = slices c.args.folders.now in
    let told = c.faults.told.items in
    let mended = subst (λ n. IsMended c.args.states c.faults.unit c.faults.fault n c.next_fault.new.unit) c.in-None.is c.in_ok-next.ensures in
    let no_more = NoMore (c.args.most - length told) c.faults.unit c.next_fault.new.unit c.faults.fault mended in
    subst (λ l. AreFurther folders c.args.states c.args.most c.args.unit c.args.fault l) (append-nil told) (c.faults.invariant [] no_more)

pub returns : goal.returns
returns c =
    let folders = slices c.args.folders.now in
    let told = c.faults.told.items in
    let none_left : 0 ≡ c.args.most - length told = omega arith in
    let enough = subst (λ n. AreFurther folders c.args.states n c.faults.unit c.faults.fault []) none_left (Enough c.faults.unit c.faults.fault) in
    subst (λ l. AreFurther folders c.args.states c.args.most c.args.unit c.args.fault l) (append-nil told) (c.faults.invariant [] enough)
