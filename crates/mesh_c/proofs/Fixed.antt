-- Each public call of this crate has one outcome. Assumes nothing.
use Prim.Native.Nat.{ℕ}
use mathlib.Core.Path.{refl, sym, ap, ap₂, ◌∙◌}
use mathlib.Core.List.{List}
use lib.IntN.{ℤ}
use Rattle.base.proofs.Outcome.{Fixed}
use Rattle.mesh_c.proofs.key.mesh_key.Kinds as mesh_key_kinds
use Rattle.mesh_c.proofs.key.mesh_key.Reads as mesh_key_reads
use Rattle.mesh_c.proofs.key.mesh_key_of_text.Kinds as mesh_key_of_text_kinds
use Rattle.mesh_c.proofs.key.mesh_key_of_text.Reads as mesh_key_of_text_reads
use Rattle.mesh_c.proofs.key.mesh_key_text.Kinds as mesh_key_text_kinds
use Rattle.mesh_c.proofs.key.mesh_key_text.Reads as mesh_key_text_reads
use Rattle.mesh_c.proofs.key.mesh_null_key.Kinds as mesh_null_key_kinds
use Rattle.mesh_c.proofs.key.mesh_null_key.Reads as mesh_null_key_reads
use Rattle.mesh_c.proofs.key.mesh_signing_key.Kinds as mesh_signing_key_kinds
use Rattle.mesh_c.proofs.key.mesh_signing_key.Reads as mesh_signing_key_reads
use Rattle.mesh_c.proofs.key.mesh_encryption_key.Kinds as mesh_encryption_key_kinds
use Rattle.mesh_c.proofs.key.mesh_encryption_key.Reads as mesh_encryption_key_reads
use Rattle.mesh_c.proofs.key.mesh_encrypt_block.Kinds as mesh_encrypt_block_kinds
use Rattle.mesh_c.proofs.key.mesh_encrypt_block.Reads as mesh_encrypt_block_reads
use Rattle.mesh_c.proofs.key.mesh_prepare.Kinds as mesh_prepare_kinds
use Rattle.mesh_c.proofs.key.mesh_prepare.Reads as mesh_prepare_reads
use Rattle.mesh_c.proofs.key.mesh_encipher.Kinds as mesh_encipher_kinds
use Rattle.mesh_c.proofs.key.mesh_encipher.Reads as mesh_encipher_reads
use Rattle.mesh_c.proofs.key.mesh_cmac.Kinds as mesh_cmac_kinds
use Rattle.mesh_c.proofs.key.mesh_cmac.Reads as mesh_cmac_reads
use Rattle.mesh_c.proofs.key.mesh_mac.Kinds as mesh_mac_kinds
use Rattle.mesh_c.proofs.key.mesh_mac.Reads as mesh_mac_reads
use Rattle.mesh_c.proofs.field.mesh_type.Kinds as mesh_type_kinds
use Rattle.mesh_c.proofs.field.mesh_type.Reads as mesh_type_reads
use Rattle.mesh_c.proofs.field.mesh_header_read.Kinds as mesh_header_read_kinds
use Rattle.mesh_c.proofs.field.mesh_header_read.Reads as mesh_header_read_reads
use Rattle.mesh_c.proofs.field.mesh_header_write.Kinds as mesh_header_write_kinds
use Rattle.mesh_c.proofs.field.mesh_header_write.Reads as mesh_header_write_reads
use Rattle.mesh_c.proofs.field.mesh_uplink_metadata_read.Kinds as mesh_uplink_metadata_read_kinds
use Rattle.mesh_c.proofs.field.mesh_uplink_metadata_read.Reads as mesh_uplink_metadata_read_reads
use Rattle.mesh_c.proofs.field.mesh_uplink_metadata_write.Kinds as mesh_uplink_metadata_write_kinds
use Rattle.mesh_c.proofs.field.mesh_uplink_metadata_write.Reads as mesh_uplink_metadata_write_reads
use Rattle.mesh_c.proofs.field.mesh_downlink_metadata_read.Kinds as mesh_downlink_metadata_read_kinds
use Rattle.mesh_c.proofs.field.mesh_downlink_metadata_read.Reads as mesh_downlink_metadata_read_reads
use Rattle.mesh_c.proofs.field.mesh_downlink_metadata_write.Kinds as mesh_downlink_metadata_write_kinds
use Rattle.mesh_c.proofs.field.mesh_downlink_metadata_write.Reads as mesh_downlink_metadata_write_reads
use Rattle.mesh_c.proofs.field.mesh_frequency_read.Kinds as mesh_frequency_read_kinds
use Rattle.mesh_c.proofs.field.mesh_frequency_read.Reads as mesh_frequency_read_reads
use Rattle.mesh_c.proofs.field.mesh_frequency_write.Kinds as mesh_frequency_write_kinds
use Rattle.mesh_c.proofs.field.mesh_frequency_write.Reads as mesh_frequency_write_reads
use Rattle.mesh_c.proofs.field.mesh_path_read.Kinds as mesh_path_read_kinds
use Rattle.mesh_c.proofs.field.mesh_path_read.Reads as mesh_path_read_reads
use Rattle.mesh_c.proofs.field.mesh_path_write.Kinds as mesh_path_write_kinds
use Rattle.mesh_c.proofs.field.mesh_path_write.Reads as mesh_path_write_reads
use Rattle.mesh_c.proofs.item.mesh_stream.Kinds as mesh_stream_kinds
use Rattle.mesh_c.proofs.item.mesh_stream.Reads as mesh_stream_reads
use Rattle.mesh_c.proofs.item.put_length.Kinds as put_length_kinds
use Rattle.mesh_c.proofs.item.put_length.Reads as put_length_reads
use Rattle.mesh_c.proofs.item.counts_of.Kinds as counts_of_kinds
use Rattle.mesh_c.proofs.item.counts_of.Reads as counts_of_reads
use Rattle.mesh_c.proofs.item.mesh_count.Kinds as mesh_count_kinds
use Rattle.mesh_c.proofs.item.mesh_count.Reads as mesh_count_reads
use Rattle.mesh_c.proofs.item.mesh_item.Kinds as mesh_item_kinds
use Rattle.mesh_c.proofs.item.mesh_item.Reads as mesh_item_reads
use Rattle.mesh_c.proofs.item.mesh_heartbeat.Kinds as mesh_heartbeat_kinds
use Rattle.mesh_c.proofs.item.mesh_heartbeat.Reads as mesh_heartbeat_reads
use Rattle.mesh_c.proofs.item.mesh_heartbeat_entry.Kinds as mesh_heartbeat_entry_kinds
use Rattle.mesh_c.proofs.item.mesh_heartbeat_entry.Reads as mesh_heartbeat_entry_reads
use Rattle.mesh_c.proofs.item.mesh_item_write.Kinds as mesh_item_write_kinds
use Rattle.mesh_c.proofs.item.mesh_item_write.Reads as mesh_item_write_reads
use Rattle.mesh_c.proofs.item.mesh_heartbeat_write.Kinds as mesh_heartbeat_write_kinds
use Rattle.mesh_c.proofs.item.mesh_heartbeat_write.Reads as mesh_heartbeat_write_reads
use Rattle.mesh_c.proofs.frame.mesh_read.Kinds as mesh_read_kinds
use Rattle.mesh_c.proofs.frame.mesh_read.Reads as mesh_read_reads
use Rattle.mesh_c.proofs.frame.mesh_read_mesh.Kinds as mesh_read_mesh_kinds
use Rattle.mesh_c.proofs.frame.mesh_read_mesh.Reads as mesh_read_mesh_reads
use Rattle.mesh_c.proofs.frame.mesh_read_body.Kinds as mesh_read_body_kinds
use Rattle.mesh_c.proofs.frame.mesh_read_body.Reads as mesh_read_body_reads
use Rattle.mesh_c.proofs.frame.mesh_write.Kinds as mesh_write_kinds
use Rattle.mesh_c.proofs.frame.mesh_write.Reads as mesh_write_reads
use Rattle.mesh_c.proofs.frame.mesh_write_body.Kinds as mesh_write_body_kinds
use Rattle.mesh_c.proofs.frame.mesh_write_body.Reads as mesh_write_body_reads
use Rattle.mesh_c.proofs.frame.mesh_sign.Kinds as mesh_sign_kinds
use Rattle.mesh_c.proofs.frame.mesh_sign.Reads as mesh_sign_reads
use Rattle.mesh_c.proofs.frame.mesh_validate.Kinds as mesh_validate_kinds
use Rattle.mesh_c.proofs.frame.mesh_validate.Reads as mesh_validate_reads
use Rattle.mesh_c.proofs.frame.mesh_set_hop_count.Kinds as mesh_set_hop_count_kinds
use Rattle.mesh_c.proofs.frame.mesh_set_hop_count.Reads as mesh_set_hop_count_reads
use Rattle.mesh_c.proofs.frame.mesh_seal.Kinds as mesh_seal_kinds
use Rattle.mesh_c.proofs.frame.mesh_seal.Reads as mesh_seal_reads
use Rattle.mesh_c.proofs.frame.mesh_decrypt.Kinds as mesh_decrypt_kinds
use Rattle.mesh_c.proofs.frame.mesh_decrypt.Reads as mesh_decrypt_reads
use Rattle.mesh_c.proofs.frame.mesh_decode.Kinds as mesh_decode_kinds
use Rattle.mesh_c.proofs.frame.mesh_decode.Reads as mesh_decode_reads
use Rattle.mesh_c.proofs.frame.mesh_record.Kinds as mesh_record_kinds
use Rattle.mesh_c.proofs.frame.mesh_record.Reads as mesh_record_reads
use Rattle.mesh_c.proofs.record.mesh_cache_clear.Kinds as mesh_cache_clear_kinds
use Rattle.mesh_c.proofs.record.mesh_cache_clear.Reads as mesh_cache_clear_reads
use Rattle.mesh_c.proofs.record.mesh_cache_add.Kinds as mesh_cache_add_kinds
use Rattle.mesh_c.proofs.record.mesh_cache_add.Reads as mesh_cache_add_reads
use Rattle.mesh_c.proofs.text.mesh_text.Kinds as mesh_text_kinds
use Rattle.mesh_c.proofs.text.mesh_text.Reads as mesh_text_reads
use Rattle.mesh_c.proofs.text.mesh_dump_line.Kinds as mesh_dump_line_kinds
use Rattle.mesh_c.proofs.text.mesh_dump_line.Reads as mesh_dump_line_reads
use Rattle.mesh_c.proofs.text.mesh_dump_frame.Kinds as mesh_dump_frame_kinds
use Rattle.mesh_c.proofs.text.mesh_dump_frame.Reads as mesh_dump_frame_reads
use Rattle.mesh_c.proofs.mesh_version.Kinds as mesh_version_kinds
use Rattle.mesh_c.proofs.mesh_version.Reads as mesh_version_reads

mesh_key : Fixed 2 mesh_key_kinds.ps mesh_key_kinds.r mesh_key_reads.Post
mesh_key κs a x y v w p q =
    (p.0 ∙ sym q.0, ap (λ (a : List ℕ). (tt, (a, tt))) (p.1 ∙ sym q.1))

mesh_key_of_text : Fixed 2 mesh_key_of_text_kinds.ps mesh_key_of_text_kinds.r mesh_key_of_text_reads.Post
mesh_key_of_text κs a x y v w p q =
    (p.0 ∙ sym q.0, ap (λ (a : List ℕ). (tt, (a, tt))) (p.1 ∙ sym q.1))

mesh_key_text : Fixed 2 mesh_key_text_kinds.ps mesh_key_text_kinds.r mesh_key_text_reads.Post
mesh_key_text κs a x y v w p q =
    (p.0 ∙ sym q.0, ap (λ (a : List ℕ). (tt, (a, tt))) (p.1 ∙ sym q.1))

mesh_null_key : Fixed 1 mesh_null_key_kinds.ps mesh_null_key_kinds.r mesh_null_key_reads.Post
mesh_null_key κs a x y v w p q =
    (refl, ap (λ (a : List ℕ). (a, tt)) (p ∙ sym q))

mesh_signing_key : Fixed 2 mesh_signing_key_kinds.ps mesh_signing_key_kinds.r mesh_signing_key_reads.Post
mesh_signing_key κs a x y v w p q =
    (refl, ap (λ (a : List ℕ). (tt, (a, tt))) (p ∙ sym q))

mesh_encryption_key : Fixed 2 mesh_encryption_key_kinds.ps mesh_encryption_key_kinds.r mesh_encryption_key_reads.Post
mesh_encryption_key κs a x y v w p q =
    (refl, ap (λ (a : List ℕ). (tt, (a, tt))) (p ∙ sym q))

mesh_encrypt_block : Fixed 2 mesh_encrypt_block_kinds.ps mesh_encrypt_block_kinds.r mesh_encrypt_block_reads.Post
mesh_encrypt_block κs a x y v w p q =
    (refl, ap (λ (a : List ℕ). (tt, (a, tt))) (p ∙ sym q))

mesh_prepare : Fixed 2 mesh_prepare_kinds.ps mesh_prepare_kinds.r mesh_prepare_reads.Post
mesh_prepare κs a x y v w p q =
    (refl, ap (λ (a : List ℕ). (tt, (a, tt))) (p ∙ sym q))

mesh_encipher : Fixed 2 mesh_encipher_kinds.ps mesh_encipher_kinds.r mesh_encipher_reads.Post
mesh_encipher κs a x y v w p q =
    (refl, ap (λ (a : List ℕ). (tt, (a, tt))) (p ∙ sym q))

mesh_cmac : Fixed 3 mesh_cmac_kinds.ps mesh_cmac_kinds.r mesh_cmac_reads.Post
mesh_cmac κs a x y v w p q =
    (refl, ap (λ (a : List ℕ). (tt, (tt, (a, tt)))) (p ∙ sym q))

mesh_mac : Fixed 3 mesh_mac_kinds.ps mesh_mac_kinds.r mesh_mac_reads.Post
mesh_mac κs a x y v w p q =
    (refl, ap (λ (a : List ℕ). (tt, (tt, (a, tt)))) (p ∙ sym q))

mesh_type : Fixed 0 mesh_type_kinds.ps mesh_type_kinds.r mesh_type_reads.Post
mesh_type κs a x y v w p q =
    (p ∙ sym q, refl)

mesh_header_read : Fixed 1 mesh_header_read_kinds.ps mesh_header_read_kinds.r mesh_header_read_reads.Post
mesh_header_read κs a x y v w p q =
    (p.0 ∙ sym q.0, ap (λ (a : List ℕ). (tt, (a, tt))) (p.1 ∙ sym q.1))

mesh_header_write : Fixed 1 mesh_header_write_kinds.ps mesh_header_write_kinds.r mesh_header_write_reads.Post
mesh_header_write κs a x y v w p q =
    (p.0 ∙ sym q.0, ap (λ (a : ℕ). (tt, (tt, (a, tt)))) (p.1 ∙ sym q.1))

mesh_uplink_metadata_read : Fixed 4 mesh_uplink_metadata_read_kinds.ps mesh_uplink_metadata_read_kinds.r mesh_uplink_metadata_read_reads.Post
mesh_uplink_metadata_read κs a x y v w p q = (
  refl,
  ap (λ (a : List ℕ). (tt, (a, (v.1.1.0, (v.1.1.1.0, tt))))) (p.0 ∙ sym q.0)
      ∙ ap₂ (λ (b : ℤ) (c : ℤ). (tt, (w.1.0, (b, (c, tt))))) (p.1.0 ∙ sym q.1.0) (p.1.1 ∙ sym q.1.1),
)

mesh_uplink_metadata_write : Fixed 1 mesh_uplink_metadata_write_kinds.ps mesh_uplink_metadata_write_kinds.r mesh_uplink_metadata_write_reads.Post
mesh_uplink_metadata_write κs a x y v w p q =
    (p.0 ∙ sym q.0, ap (λ (a : List ℕ). (tt, (tt, (tt, (tt, (tt, (a, tt))))))) (p.1 ∙ sym q.1))

mesh_downlink_metadata_read : Fixed 2 mesh_downlink_metadata_read_kinds.ps mesh_downlink_metadata_read_kinds.r mesh_downlink_metadata_read_reads.Post
mesh_downlink_metadata_read κs a x y v w p q =
    (refl, ap (λ (a : List ℕ). (tt, (a, tt))) (p ∙ sym q))

mesh_downlink_metadata_write : Fixed 1 mesh_downlink_metadata_write_kinds.ps mesh_downlink_metadata_write_kinds.r mesh_downlink_metadata_write_reads.Post
mesh_downlink_metadata_write κs a x y v w p q =
    (p.0 ∙ sym q.0, ap (λ (a : List ℕ). (tt, (tt, (tt, (tt, (tt, (a, tt))))))) (p.1 ∙ sym q.1))

mesh_frequency_read : Fixed 2 mesh_frequency_read_kinds.ps mesh_frequency_read_kinds.r mesh_frequency_read_reads.Post
mesh_frequency_read κs a x y v w p q =
    (p.0 ∙ sym q.0, ap (λ (a : ℕ). (tt, (a, tt))) (p.1 ∙ sym q.1))

mesh_frequency_write : Fixed 1 mesh_frequency_write_kinds.ps mesh_frequency_write_kinds.r mesh_frequency_write_reads.Post
mesh_frequency_write κs a x y v w p q =
    (p.0 ∙ sym q.0, ap (λ (a : List ℕ). (tt, (a, tt))) (p.1 ∙ sym q.1))

mesh_path_read : Fixed 5 mesh_path_read_kinds.ps mesh_path_read_kinds.r mesh_path_read_reads.Post
mesh_path_read κs a x y v w p q = (
  refl,
  ap (λ (a : ℕ). (tt, (a, (v.1.1.0, (v.1.1.1.0, (v.1.1.1.1.0, tt)))))) (p.0 ∙ sym q.0)
      ∙ ap₂ (λ (b : ℤ) (c : ℤ). (tt, (w.1.0, (b, (c, (v.1.1.1.1.0, tt)))))) (p.1.0 ∙ sym q.1.0) (p.1.1.0 ∙ sym q.1.1.0)
      ∙ ap (λ (a : ℕ). (tt, (w.1.0, (w.1.1.0, (w.1.1.1.0, (a, tt)))))) (p.1.1.1 ∙ sym q.1.1.1),
)

mesh_path_write : Fixed 1 mesh_path_write_kinds.ps mesh_path_write_kinds.r mesh_path_write_reads.Post
mesh_path_write κs a x y v w p q =
    (p.0 ∙ sym q.0, ap (λ (a : List ℕ). (tt, (tt, (tt, (a, tt))))) (p.1 ∙ sym q.1))

mesh_stream : Fixed 3 mesh_stream_kinds.ps mesh_stream_kinds.r mesh_stream_reads.Post
mesh_stream κs a x y v w p q =
    (p.0 ∙ sym q.0, ap (λ (a : List ℕ). (tt, (tt, (tt, (tt, (tt, (a, tt))))))) (p.1 ∙ sym q.1))

put_length : Fixed 1 put_length_kinds.ps put_length_kinds.r put_length_reads.Post
put_length κs a x y v w p q =
    (p.0 ∙ sym q.0, ap (λ (a : ℕ). (tt, (a, tt))) (p.1 ∙ sym q.1))

counts_of : Fixed 0 counts_of_kinds.ps counts_of_kinds.r counts_of_reads.Post
counts_of κs a x y v w p q =
    (p ∙ sym q, refl)

mesh_count : Fixed 2 mesh_count_kinds.ps mesh_count_kinds.r mesh_count_reads.Post
mesh_count κs a x y v w p q =
    (p.0 ∙ sym q.0, ap (λ (a : List ℕ). (tt, (tt, (a, tt)))) (p.1 ∙ sym q.1))

mesh_item : Fixed 2 mesh_item_kinds.ps mesh_item_kinds.r mesh_item_reads.Post
mesh_item κs a x y v w p q =
    (p.0 ∙ sym q.0, ap (λ (a : List ℕ). (tt, (tt, (tt, (a, tt))))) (p.1 ∙ sym q.1))

mesh_heartbeat : Fixed 2 mesh_heartbeat_kinds.ps mesh_heartbeat_kinds.r mesh_heartbeat_reads.Post
mesh_heartbeat κs a x y v w p q =
    (p.0 ∙ sym q.0, ap (λ (a : ℕ). (tt, (tt, (a, tt)))) (p.1 ∙ sym q.1))

mesh_heartbeat_entry : Fixed 5 mesh_heartbeat_entry_kinds.ps mesh_heartbeat_entry_kinds.r mesh_heartbeat_entry_reads.Post
mesh_heartbeat_entry κs a x y v w p q = (
  p.0 ∙ sym q.0,
  ap (λ (a : ℕ). (tt, (tt, (a, (v.1.1.1.0, (v.1.1.1.1.0, (v.1.1.1.1.1.0, tt))))))) (p.1.0 ∙ sym q.1.0)
      ∙ ap₂ (λ (b : ℤ) (c : ℤ). (tt, (tt, (w.1.1.0, (b, (c, (v.1.1.1.1.1.0, tt))))))) (p.1.1.0 ∙ sym q.1.1.0) (p.1.1.1.0 ∙ sym q.1.1.1.0)
      ∙ ap (λ (a : ℕ). (tt, (tt, (w.1.1.0, (w.1.1.1.0, (w.1.1.1.1.0, (a, tt))))))) (p.1.1.1.1 ∙ sym q.1.1.1.1),
)

mesh_item_write : Fixed 3 mesh_item_write_kinds.ps mesh_item_write_kinds.r mesh_item_write_reads.Post
mesh_item_write κs a x y v w p q =
    (p.0 ∙ sym q.0, ap₂ (λ (a : List ℕ) (b : ℕ). (tt, (tt, (tt, (tt, (a, (b, tt))))))) (p.1.0 ∙ sym q.1.0) (p.1.1 ∙ sym q.1.1))

mesh_heartbeat_write : Fixed 4 mesh_heartbeat_write_kinds.ps mesh_heartbeat_write_kinds.r mesh_heartbeat_write_reads.Post
mesh_heartbeat_write κs a x y v w p q =
    (p.0 ∙ sym q.0, ap₂ (λ (a : List ℕ) (b : ℕ). (tt, (a, (b, tt)))) (p.1.0 ∙ sym q.1.0) (p.1.1 ∙ sym q.1.1))

mesh_read : Fixed 4 mesh_read_kinds.ps mesh_read_kinds.r mesh_read_reads.Post
mesh_read κs a x y v w p q = (
  p.0 ∙ sym q.0,
  ap (λ (a : List ℕ). (tt, (a, (v.1.1.0, (v.1.1.1.0, tt))))) (p.1.0 ∙ sym q.1.0)
      ∙ ap₂ (λ (b : ℤ) (c : ℤ). (tt, (w.1.0, (b, (c, tt))))) (p.1.1.0 ∙ sym q.1.1.0) (p.1.1.1 ∙ sym q.1.1.1),
)

mesh_read_mesh : Fixed 4 mesh_read_mesh_kinds.ps mesh_read_mesh_kinds.r mesh_read_mesh_reads.Post
mesh_read_mesh κs a x y v w p q = (
  p.0 ∙ sym q.0,
  ap (λ (a : List ℕ). (tt, (a, (v.1.1.0, (v.1.1.1.0, tt))))) (p.1.0 ∙ sym q.1.0)
      ∙ ap₂ (λ (b : ℤ) (c : ℤ). (tt, (w.1.0, (b, (c, tt))))) (p.1.1.0 ∙ sym q.1.1.0) (p.1.1.1 ∙ sym q.1.1.1),
)

mesh_read_body : Fixed 4 mesh_read_body_kinds.ps mesh_read_body_kinds.r mesh_read_body_reads.Post
mesh_read_body κs a x y v w p q = (
  p.0 ∙ sym q.0,
  ap (λ (a : List ℕ). (tt, (tt, (a, (v.1.1.1.0, (v.1.1.1.1.0, tt)))))) (p.1.0 ∙ sym q.1.0)
      ∙ ap₂ (λ (b : ℤ) (c : ℤ). (tt, (tt, (w.1.1.0, (b, (c, tt)))))) (p.1.1.0 ∙ sym q.1.1.0) (p.1.1.1 ∙ sym q.1.1.1),
)

mesh_write : Fixed 9 mesh_write_kinds.ps mesh_write_kinds.r mesh_write_reads.Post
mesh_write κs a x y v w p q =
    (p.0 ∙ sym q.0, ap₂ (λ (a : List ℕ) (b : ℕ). (tt, (tt, (tt, (tt, (tt, (tt, (tt, (tt, (tt, (tt, (a, (b, tt))))))))))))) (p.1.0 ∙ sym q.1.0) (p.1.1 ∙ sym q.1.1))

mesh_write_body : Fixed 5 mesh_write_body_kinds.ps mesh_write_body_kinds.r mesh_write_body_reads.Post
mesh_write_body κs a x y v w p q =
    (p.0 ∙ sym q.0, ap₂ (λ (a : List ℕ) (b : ℕ). (tt, (tt, (tt, (tt, (a, (b, tt))))))) (p.1.0 ∙ sym q.1.0) (p.1.1 ∙ sym q.1.1))

mesh_sign : Fixed 4 mesh_sign_kinds.ps mesh_sign_kinds.r mesh_sign_reads.Post
mesh_sign κs a x y v w p q =
    (p.0 ∙ sym q.0, ap (λ (a : List ℕ). (a, (tt, (tt, (tt, (tt, tt)))))) (p.1 ∙ sym q.1))

mesh_validate : Fixed 5 mesh_validate_kinds.ps mesh_validate_kinds.r mesh_validate_reads.Post
mesh_validate κs a x y v w p q =
    (p.0 ∙ sym q.0, ap (λ (a : ℕ). (tt, (tt, (tt, (tt, (tt, (a, tt))))))) (p.1 ∙ sym q.1))

mesh_set_hop_count : Fixed 2 mesh_set_hop_count_kinds.ps mesh_set_hop_count_kinds.r mesh_set_hop_count_reads.Post
mesh_set_hop_count κs a x y v w p q =
    (p.0 ∙ sym q.0, ap (λ (a : List ℕ). (tt, (a, (tt, tt)))) (p.1 ∙ sym q.1))

mesh_seal : Fixed 5 mesh_seal_kinds.ps mesh_seal_kinds.r mesh_seal_reads.Post
mesh_seal κs a x y v w p q =
    (p.0 ∙ sym q.0, ap₂ (λ (a : List ℕ) (b : List ℕ). (a, (tt, (tt, (b, tt))))) (p.1.0 ∙ sym q.1.0) (p.1.1 ∙ sym q.1.1))

mesh_decrypt : Fixed 5 mesh_decrypt_kinds.ps mesh_decrypt_kinds.r mesh_decrypt_reads.Post
mesh_decrypt κs a x y v w p q = (
  p.0 ∙ sym q.0,
  ap (λ (a : List ℕ). (a, (tt, (tt, (v.1.1.1.0, (v.1.1.1.1.0, tt)))))) (p.1.0 ∙ sym q.1.0)
      ∙ ap₂ (λ (b : List ℕ) (c : List ℕ). (w.0, (tt, (tt, (b, (c, tt)))))) (p.1.1.0 ∙ sym q.1.1.0) (p.1.1.1 ∙ sym q.1.1.1),
)

mesh_decode : Fixed 3 mesh_decode_kinds.ps mesh_decode_kinds.r mesh_decode_reads.Post
mesh_decode κs a x y v w p q =
    (p.0 ∙ sym q.0, ap₂ (λ (a : List ℕ) (b : List ℕ). (a, (tt, (tt, (b, tt))))) (p.1.0 ∙ sym q.1.0) (p.1.1 ∙ sym q.1.1))

mesh_record : Fixed 2 mesh_record_kinds.ps mesh_record_kinds.r mesh_record_reads.Post
mesh_record κs a x y v w p q =
    (p.0 ∙ sym q.0, ap (λ (a : List ℕ). (tt, (a, tt))) (p.1 ∙ sym q.1))

mesh_cache_clear : Fixed 1 mesh_cache_clear_kinds.ps mesh_cache_clear_kinds.r mesh_cache_clear_reads.Post
mesh_cache_clear κs a x y v w p q =
    (p.0 ∙ sym q.0, ap (λ (a : List ℕ). (a, (tt, tt))) (p.1 ∙ sym q.1))

mesh_cache_add : Fixed 3 mesh_cache_add_kinds.ps mesh_cache_add_kinds.r mesh_cache_add_reads.Post
mesh_cache_add κs a x y v w p q =
    (p.0 ∙ sym q.0, ap₂ (λ (a : List ℕ) (b : ℕ). (a, (tt, (b, tt)))) (p.1.0 ∙ sym q.1.0) (p.1.1 ∙ sym q.1.1))

mesh_text_lem : Fixed 3 mesh_text_kinds.ps mesh_text_kinds.r mesh_text_reads.Post
mesh_text_lem κs a x y v w p q =
    (p.0 ∙ sym q.0, ap₂ (λ (a : List ℕ) (b : ℕ). (tt, (a, (b, tt)))) (p.1.0 ∙ sym q.1.0) (p.1.1 ∙ sym q.1.1))

mesh_dump_line : Fixed 3 mesh_dump_line_kinds.ps mesh_dump_line_kinds.r mesh_dump_line_reads.Post
mesh_dump_line κs a x y v w p q =
    (p.0 ∙ sym q.0, ap₂ (λ (a : List ℕ) (b : ℕ). (tt, (a, (b, tt)))) (p.1.0 ∙ sym q.1.0) (p.1.1 ∙ sym q.1.1))

mesh_dump_frame : Fixed 3 mesh_dump_frame_kinds.ps mesh_dump_frame_kinds.r mesh_dump_frame_reads.Post
mesh_dump_frame κs a x y v w p q =
    (p.0 ∙ sym q.0, ap₂ (λ (a : List ℕ) (b : ℕ). (tt, (a, (b, tt)))) (p.1.0 ∙ sym q.1.0) (p.1.1 ∙ sym q.1.1))

mesh_version : Fixed 0 mesh_version_kinds.ps mesh_version_kinds.r mesh_version_reads.Post
mesh_version κs a x y v w p q =
    (p ∙ sym q, refl)
