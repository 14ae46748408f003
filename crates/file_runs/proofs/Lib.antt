pub mod FilesRead
