-- What holds however a call ends.
use Rattle.std.specs.Prelude.{Result, Ok, Err, OnOk, OnErr, IfOk}

pub on-ok : {A E : Type 0} (r : Result A E) (P : Type 0) → P → OnOk r P
on-ok (Ok a) P p = p
on-ok (Err e) P p = tt

pub on-err : {A E : Type 0} (r : Result A E) (P : Type 0) → P → OnErr r P
on-err (Ok a) P p = tt
on-err (Err e) P p = p

pub map-err : {A E : Type 0} (r : Result A E) (P Q : Type 0) → (P → Q) → OnErr r P → OnErr r Q
map-err (Ok a) P Q f h = tt
map-err (Err e) P Q f h = f h

pub map-ok : {A E : Type 0} (r : Result A E) (P Q : A → Type 0) → ((a : A) → P a → Q a) → IfOk r P → IfOk r Q
map-ok (Ok a) P Q f h = f a h
map-ok (Err e) P Q f h = tt
