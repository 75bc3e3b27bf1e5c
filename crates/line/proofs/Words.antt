-- The words of a line begin apart. Assumes nothing.
use Rattle.std.proofs.Common.{◌≡◌, ℕ, ◌<◌, ◌==◌, cond, length, get_or, sym, refl, ap, ◌∙◌, ◌≢◌, arith}
use Rattle.line.specs.declared.names.Name.{Name}
use Rattle.line.specs.declared.names.Name.TheVariants.{Message, Node, Bytes, Timed, Event, Jitter, Due}
use Rattle.line.specs.Names.{name_text}

pub some : (name : Name) → 0 < length (name_text name)
some Message = omega arith
some Node = omega arith
some Bytes = omega arith
some Timed = omega arith
some Event = omega arith
some Jitter = omega arith
some Due = omega arith

-- the name that begins with c
abbrev begun : ℕ → Name
begun c = cond (c == 109) Message (cond (c == 110) Node (cond (c == 98) Bytes (cond (c == 116) Timed (cond (c == 101) Event (cond (c == 106) Jitter Due)))))

begun_is : (name : Name) → begun (get_or (name_text name) 0 0) ≡ name
begun_is Message = refl
begun_is Node = refl
begun_is Bytes = refl
begun_is Timed = refl
begun_is Event = refl
begun_is Jitter = refl
begun_is Due = refl

pub begin_apart : (a b : Name) → a ≢ b → get_or (name_text a) 0 0 ≢ get_or (name_text b) 0 0
begin_apart a b differ e = differ (sym (begun_is a) ∙ ap begun e ∙ begun_is b)
