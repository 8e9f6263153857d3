-- What holds of what a result has.
use Rattle.std.proofs.Common.{Result, Ok, Err}
use Rattle.std.specs.Prelude.{IfOk, IfErr}

pub ok_map : {T E : Type 0} (r : Result T E) (P Q : T → Type 0) → ((x : T) → P x → Q x) → IfOk r P → IfOk r Q
ok_map (Ok x) P Q keeps holds = keeps x holds
ok_map (Err e) P Q keeps holds = holds

pub err_map : {T E : Type 0} (r : Result T E) (P Q : E → Type 0) → ((e : E) → P e → Q e) → IfErr r P → IfErr r Q
err_map (Ok x) P Q keeps holds = holds
err_map (Err e) P Q keeps holds = keeps e holds

pub err_map2 : {T E : Type 0} (r : Result T E) (P Q R : E → Type 0) → ((e : E) → P e → Q e → R e) → IfErr r P → IfErr r Q → IfErr r R
err_map2 (Ok x) P Q R keeps first second = first
err_map2 (Err e) P Q R keeps first second = keeps e first second
