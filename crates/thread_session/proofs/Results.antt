-- What a result's outcome gives.
use Rattle.std.specs.Prelude.{Result, Ok, Err, IfOk, OnErr, OnOk}

pub on_err : {T E : Type 0} (r : Result T E) {P : Type 0} → P → OnErr r P
on_err (Ok x) p = tt
on_err (Err e) p = p

pub ok_gives : {T E : Type 0} (r : Result T E) {F : T → Type 0} {P : Type 0} → ((x : T) → F x → P) → IfOk r F → OnOk r P
ok_gives (Ok x) f h = f x h
ok_gives (Err e) f h = tt

pub ok_then : {T E : Type 0} (r : Result T E) {F G : T → Type 0} → ((x : T) → F x → G x) → IfOk r F → IfOk r G
ok_then (Ok x) f h = f x h
ok_then (Err e) f h = tt

pub err_gives : {T E : Type 0} (r : Result T E) {F P : Type 0} → (F → P) → OnErr r F → OnErr r P
err_gives (Ok x) f h = tt
err_gives (Err e) f h = f h
