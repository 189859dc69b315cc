-- Facts on results.
use Rattle.std.specs.Prelude.{Result, Ok, Err, IfOk, OnOk, OnErr}

-- what holds holds of an error
pub on_err : {X Y : Type 0} {P : Type 0} (result : Result X Y) → P → OnErr result P
on_err (Ok value) fact = tt
on_err (Err error) fact = fact

-- what follows from what a result says follows from it
pub ok_then : {X Y : Type 0} {P Q : Type 0} (result : Result X Y) → OnOk result P → (P → Q) → OnOk result Q
ok_then (Ok value) fact then = then fact
ok_then (Err error) fact then = tt

pub err_then : {X Y : Type 0} {P Q : Type 0} (result : Result X Y) → OnErr result P → (P → Q) → OnErr result Q
err_then (Ok value) fact then = tt
err_then (Err error) fact then = then fact

pub if_ok_then : {X Y : Type 0} (result : Result X Y) (P Q : X → Type 0) → IfOk result P → ((value : X) → P value → Q value) → IfOk result Q
if_ok_then (Ok value) P Q fact then = then value fact
if_ok_then (Err error) P Q fact then = tt
