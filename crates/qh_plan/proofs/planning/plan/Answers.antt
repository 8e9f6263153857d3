use Rattle.std.proofs.Common.{◌≡◌, ◌==◌, ℕ, [], List, length, Some, None, arith, sym, ap, subst, ◌∙◌, All}
use Rattle.std.proofs.Math.Path.{ap₂}
use Rattle.std.specs.List.{list_any}
use Rattle.qh_plan.specs.Paths.{radices}
use Rattle.qh_plan.specs.Jobs.{Job, job_radices, ranges}
use Rattle.qh_plan.specs.Texts.{journal_length}
use Rattle.qh_plan.specs.Plans.{IsRadix, IsDraft, item_fault, width_fault, path_fault, split_fault, size_fault, first_fault, rising, job_of}
use Rattle.qh_plan.proofs.CutLemmas.{rising_length}
use Rattle.qh_plan.proofs.PlanLemmas.{refused_items, refused_width, refused_paths, refused_split, refused_size, draft, ok_both, err_map}
use Rattle.qh_plan.proofs.planning.plan.Goals as goal

pub returns-in-Some-clause-refused : goal.returns-in-Some-clause-refused
returns-in-Some-clause-refused c =
    let v = c.args.circuit in
    let items = c.args.part.now in
    let j : Job = job_of v items c.args.p c.args.r c.args.w c.args.bits.items in
    let q : c.qubits-qubits.result ≡ v.qubits = c.qubits-qubits.ensures.value in
    let a = c.in-Some.ensures ∙ ap (λ n. item_fault n [] items) q in
    λ _. refused_items v items c.args.p c.args.r c.args.w c.args.bits.items _ a

pub overflow_cast-len : goal.overflow_cast-len
overflow_cast-len c =
    let v = c.args.circuit in
    let items = c.args.part.now in
    let j : Job = job_of v items c.args.p c.args.r c.args.w c.args.bits.items in
    let q : c.qubits-qubits.result ≡ v.qubits = c.qubits-qubits.ensures.value in
    let one : c.in-Ok.one.items ≡ rising v.qubits items = c.in-Ok.ensures ∙ ap (λ n. rising n items) q in
    let len : c.len.result ≡ length (rising v.qubits items) = omega (arith, c.len.ensures, c.in-Ok.one.ok.0, ap (length {A = ℕ}) one) in
    let l = rising_length v.qubits items in let few = c.qubits-qubits.ensures.valid.few in omega arith

pub width_fault-requires : goal.width_fault-requires
width_fault-requires c =
    let v = c.args.circuit in
    let items = c.args.part.now in
    let j : Job = job_of v items c.args.p c.args.r c.args.w c.args.bits.items in
    let q : c.qubits-qubits.result ≡ v.qubits = c.qubits-qubits.ensures.value in
    let one : c.in-Ok.one.items ≡ rising v.qubits items = c.in-Ok.ensures ∙ ap (λ n. rising n items) q in
    let len : c.len.result ≡ length (rising v.qubits items) = omega (arith, c.len.ensures, c.in-Ok.one.ok.0, ap (length {A = ℕ}) one) in
    let l = rising_length v.qubits items in omega arith

pub returns-in-Some-width_fault-clause-refused : goal.returns-in-Some-width_fault-clause-refused
returns-in-Some-width_fault-clause-refused c =
    let v = c.args.circuit in
    let items = c.args.part.now in
    let j : Job = job_of v items c.args.p c.args.r c.args.w c.args.bits.items in
    let q : c.qubits-qubits.result ≡ v.qubits = c.qubits-qubits.ensures.value in
    let a = c.in_default.ensures ∙ ap (λ n. item_fault n [] items) q in
    let one : c.in-Ok.one.items ≡ rising v.qubits items = c.in-Ok.ensures ∙ ap (λ n. rising n items) q in
    let len : c.len.result ≡ length (rising v.qubits items) = omega (arith, c.len.ensures, c.in-Ok.one.ok.0, ap (length {A = ℕ}) one) in
    let b = c.in-Some-width_fault.ensures ∙ ap₂ width_fault q len in
    λ _. refused_width v items c.args.p c.args.r c.args.w c.args.bits.items _ a b

pub returns-in-Some-path_fault-clause-refused : goal.returns-in-Some-path_fault-clause-refused
returns-in-Some-path_fault-clause-refused c =
    let v = c.args.circuit in
    let items = c.args.part.now in
    let j : Job = job_of v items c.args.p c.args.r c.args.w c.args.bits.items in
    let q : c.qubits-qubits.result ≡ v.qubits = c.qubits-qubits.ensures.value in
    let a = c.in_default.ensures ∙ ap (λ n. item_fault n [] items) q in
    let one : c.in-Ok.one.items ≡ rising v.qubits items = c.in-Ok.ensures ∙ ap (λ n. rising n items) q in
    let len : c.len.result ≡ length (rising v.qubits items) = omega (arith, c.len.ensures, c.in-Ok.one.ok.0, ap (length {A = ℕ}) one) in
    let b = c.in_default-width_fault.ensures ∙ ap₂ width_fault q len in
    let known : All IsRadix c.in-Ok-radices.radices.items = c.in-Ok-radices.ensures.known in
    let part = c.deref.ensures.value ∙ one in
    let rs : c.in-Ok-radices.radices.items ≡ job_radices j = c.in-Ok-radices.ensures.value
    ∙ (λ i. radices (λ q. list_any (λ k. k == q) (part i)) (c.gates.ensures.value i)) in
    let d = c.in-Some-path_fault.ensures ∙ ap path_fault (c.deref-2.ensures.value ∙ rs) in
    λ _. refused_paths v items c.args.p c.args.r c.args.w c.args.bits.items _ a b d

pub returns-in-Some-split_fault-clause-refused : goal.returns-in-Some-split_fault-clause-refused
returns-in-Some-split_fault-clause-refused c =
    let v = c.args.circuit in
    let items = c.args.part.now in
    let j : Job = job_of v items c.args.p c.args.r c.args.w c.args.bits.items in
    let q : c.qubits-qubits.result ≡ v.qubits = c.qubits-qubits.ensures.value in
    let a = c.in_default.ensures ∙ ap (λ n. item_fault n [] items) q in
    let one : c.in-Ok.one.items ≡ rising v.qubits items = c.in-Ok.ensures ∙ ap (λ n. rising n items) q in
    let len : c.len.result ≡ length (rising v.qubits items) = omega (arith, c.len.ensures, c.in-Ok.one.ok.0, ap (length {A = ℕ}) one) in
    let b = c.in_default-width_fault.ensures ∙ ap₂ width_fault q len in
    let known : All IsRadix c.in-Ok-radices.radices.items = c.in-Ok-radices.ensures.known in
    let part = c.deref.ensures.value ∙ one in
    let rs : c.in-Ok-radices.radices.items ≡ job_radices j = c.in-Ok-radices.ensures.value
    ∙ (λ i. radices (λ q. list_any (λ k. k == q) (part i)) (c.gates.ensures.value i)) in
    let d = c.in_default-path_fault.ensures ∙ ap path_fault (c.deref-2.ensures.value ∙ rs) in
    let e = c.in-Some-split_fault.ensures ∙ ap (λ x. split_fault x c.args.p c.args.r c.args.w) (c.deref-3.ensures.value ∙ rs) in
    λ _. refused_split v items c.args.p c.args.r c.args.w c.args.bits.items _ a b d e

pub of_parts-requires : goal.of_parts-requires
of_parts-requires c =
    let v = c.args.circuit in
    let items = c.args.part.now in
    let j : Job = job_of v items c.args.p c.args.r c.args.w c.args.bits.items in
    let q : c.qubits-qubits.result ≡ v.qubits = c.qubits-qubits.ensures.value in
    let a = c.in_default.ensures ∙ ap (λ n. item_fault n [] items) q in
    let one : c.in-Ok.one.items ≡ rising v.qubits items = c.in-Ok.ensures ∙ ap (λ n. rising n items) q in
    let len : c.len.result ≡ length (rising v.qubits items) = omega (arith, c.len.ensures, c.in-Ok.one.ok.0, ap (length {A = ℕ}) one) in
    let b = c.in_default-width_fault.ensures ∙ ap₂ width_fault q len in
    let known : All IsRadix c.in-Ok-radices.radices.items = c.in-Ok-radices.ensures.known in
    let part = c.deref.ensures.value ∙ one in
    let rs : c.in-Ok-radices.radices.items ≡ job_radices j = c.in-Ok-radices.ensures.value
    ∙ (λ i. radices (λ q. list_any (λ k. k == q) (part i)) (c.gates.ensures.value i)) in
    let d = c.in_default-path_fault.ensures ∙ ap path_fault c.deref-2.ensures.value in
    let e = c.in_default-split_fault.ensures ∙ ap (λ x. split_fault x c.args.p c.args.r c.args.w) c.deref-3.ensures.value in
    subst (λ x. IsDraft (record { circuit = v; part = x; p = c.args.p; r = c.args.r; prefix = c.args.w; bits = c.args.bits.items }) c.in-Ok-radices.radices.items) (sym one)
    (draft v items c.args.p c.args.r c.args.w c.args.bits.items c.in-Ok-radices.radices.items c.qubits-qubits.ensures.valid c.requires rs known b d e)

pub returns-clause-accepted : goal.returns-clause-accepted
returns-clause-accepted c =
    let v = c.args.circuit in
    let items = c.args.part.now in
    let j : Job = job_of v items c.args.p c.args.r c.args.w c.args.bits.items in
    let made : List ℕ → Job = λ x. record { circuit = v; part = x; p = c.args.p; r = c.args.r; prefix = c.args.w; bits = c.args.bits.items } in
    let q : c.qubits-qubits.result ≡ v.qubits = c.qubits-qubits.ensures.value in
    let a = c.in_default.ensures ∙ ap (λ n. item_fault n [] items) q in
    let one : c.in-Ok.one.items ≡ rising v.qubits items = c.in-Ok.ensures ∙ ap (λ n. rising n items) q in
    let len : c.len.result ≡ length (rising v.qubits items) = omega (arith, c.len.ensures, c.in-Ok.one.ok.0, ap (length {A = ℕ}) one) in
    let b = c.in_default-width_fault.ensures ∙ ap₂ width_fault q len in
    let part = c.deref.ensures.value ∙ one in
    let rs : c.in-Ok-radices.radices.items ≡ job_radices j = c.in-Ok-radices.ensures.value
    ∙ (λ i. radices (λ q. list_any (λ k. k == q) (part i)) (c.gates.ensures.value i)) in
    let d = c.in_default-path_fault.ensures ∙ ap path_fault (c.deref-2.ensures.value ∙ rs) in
    let e = c.in_default-split_fault.ensures ∙ ap (λ x. split_fault x c.args.p c.args.r c.args.w) (c.deref-3.ensures.value ∙ rs) in
    ok_both c.of_parts.result (λ x. x ≡ made c.in-Ok.one.items) (λ x. size_fault (ranges x) (journal_length x) ≡ None) (first_fault v items c.args.p c.args.r c.args.w c.args.bits.items ≡ None)
    (λ x is fits. refused_size v items c.args.p c.args.r c.args.w c.args.bits.items None a b d e
    (ap (λ y. size_fault (ranges y) (journal_length y)) (sym (is ∙ ap made one)) ∙ fits))
    c.of_parts.ensures.job c.of_parts.ensures.accepted

pub returns-clause-refused : goal.returns-clause-refused
returns-clause-refused c =
    let v = c.args.circuit in
    let items = c.args.part.now in
    let j : Job = job_of v items c.args.p c.args.r c.args.w c.args.bits.items in
    let made : List ℕ → Job = λ x. record { circuit = v; part = x; p = c.args.p; r = c.args.r; prefix = c.args.w; bits = c.args.bits.items } in
    let q : c.qubits-qubits.result ≡ v.qubits = c.qubits-qubits.ensures.value in
    let a = c.in_default.ensures ∙ ap (λ n. item_fault n [] items) q in
    let one : c.in-Ok.one.items ≡ rising v.qubits items = c.in-Ok.ensures ∙ ap (λ n. rising n items) q in
    let len : c.len.result ≡ length (rising v.qubits items) = omega (arith, c.len.ensures, c.in-Ok.one.ok.0, ap (length {A = ℕ}) one) in
    let b = c.in_default-width_fault.ensures ∙ ap₂ width_fault q len in
    let part = c.deref.ensures.value ∙ one in
    let rs : c.in-Ok-radices.radices.items ≡ job_radices j = c.in-Ok-radices.ensures.value
    ∙ (λ i. radices (λ q. list_any (λ k. k == q) (part i)) (c.gates.ensures.value i)) in
    let d = c.in_default-path_fault.ensures ∙ ap path_fault (c.deref-2.ensures.value ∙ rs) in
    let e = c.in_default-split_fault.ensures ∙ ap (λ x. split_fault x c.args.p c.args.r c.args.w) (c.deref-3.ensures.value ∙ rs) in
    err_map c.of_parts.result _ _
    (λ f says other. refused_size v items c.args.p c.args.r c.args.w c.args.bits.items (Some f) a b d e
    (ap (λ y. size_fault (ranges y) (journal_length y)) (sym (ap made one)) ∙ says other))
    c.of_parts.ensures.refused
