-- What a record that is found holds of the caller's own bytes. Document 01, "Records in a file".
use Rattle.std.specs.Prelude.{◌≡◌, ℕ, ◌+◌, ◌≤◌, List, length}
use Rattle.std.specs.Borrow.{Bor}
use Rattle.statement.specs.declared.Kind.{Kind}
use Rattle.statement.specs.Record.{kind_in, taxa_in, length_in, record_length, body_in}
use Rattle.statement.specs.Said.{code_of_kind}

-- the kind and the n of the header, and the body behind the header, as long as the header says; the whole record lies in the bytes
pub record Holds (bytes : Bor (List ℕ)) (kind : Kind) (n : ℕ) (body : Bor (List ℕ)) : Type 0 where
  pub kind_is : code_of_kind kind ≡ kind_in bytes.now
  pub taxa : n ≡ taxa_in bytes.now
  pub contents : body.now ≡ body_in bytes.now
  pub pointer : (body.ref_ptr.0 ≡ bytes.ref_ptr.0) × (body.ref_ptr.1 ≡ bytes.ref_ptr.1 + 8)
  pub size : length body.now ≡ length_in bytes.now
  pub whole : record_length (length_in bytes.now) ≤ length bytes.now
