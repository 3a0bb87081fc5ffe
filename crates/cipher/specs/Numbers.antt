-- Engines by number.
use Rattle.std.specs.Prelude.{cond, ℕ, eqb}
-- as the code declares them
use Rattle.cipher.specs.declared.engine.Engine.{Engine}
use Rattle.cipher.specs.declared.engine.Engine.TheVariants.{Tables, Arithmetic}

-- 1 is the arithmetic; a number that names no other engine names the byte tables
abbrev pub engine_of : ℕ → Engine
engine_of number = cond (eqb number 1) Arithmetic Tables
